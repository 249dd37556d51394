use Rattle.words_numbers.specs.declared.res.Res.TheVariants as res
use Rattle.rules_machine.specs.Signals.{delivers}
use Rattle.rules_machine.specs.Waking.{wakes}
use Rattle.rules_machine.proofs.Behind.{then_behind, wakes_behind}
use Rattle.rules_machine.proofs.BehindCalls.{delivers_behind}
use Rattle.kernel_state.proofs.Does.{then_does}
use Rattle.calls_signals.proofs.kills.send_to_acceptor.Goals as goal

pub returns : goal.returns
returns g c =
    let w = c.args.w in
    let r = c.args.r.now in
    then_does (then_behind (delivers w r) (wakes w res.Zero r.signal) (delivers_behind w r) (wakes_behind w res.Zero r.signal)) c.returns.ensures c.accept.ensures
