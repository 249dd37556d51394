use Rattle.std.proofs.Common.{refl}
use Rattle.rules_machine.specs.Signals.{without_record}
use Rattle.rules_machine.specs.Turns.{changes_pending}
use Rattle.rules_machine.proofs.BehindCalls.{delivers_behind}
use Rattle.kernel_state.proofs.Does.{quiet_does, then_does}
use Rattle.calls_items.proofs.delivery.interrupt_by.Goals as goal

pub returns : goal.returns
returns g c =
    let first = quiet_does (changes_pending (without_record c.args.r.now)) refl c.take_record.ensures c.interrupt.ensures in
    then_does (delivers_behind c.args.t c.args.r.now) first c.deliver.ensures
