use Rattle.std.proofs.Common.{refl}
use Rattle.rules_machine.specs.Turns.{moves, tells}
use Rattle.rules_machine.proofs.Behind.{activates_server_behind}
use Rattle.rules_machine.specs.Servers.{activates_if_high}
use Rattle.kernel_state.proofs.Does.{quiet_does, then_does}
use Rattle.kernel_state.specs.Does.{Does}
use Rattle.kernel_wakes.proofs.wakes.rise.Goals as goal

pub returns : goal.returns
returns g c =
    let t = c.args.t in
    let tell : Does g.K.Sink.text g.K.Sink.faults (tells c.args.e.now) c.move_later.new.self c.move_later.new.self c.args.out.now c.tell.new.out = record { state = refl; told = c.tell.ensures } in
    quiet_does (moves t) refl c.move_later.ensures (then_does {g = activates_if_high t} (λ told s. activates_server_behind t _ told s) tell c.activate_if_high.ensures)
