use Rattle.std.proofs.Common.{ap, ◌∙◌, List}
use Rattle.std.specs.List.{list_any}
use Rattle.rules_machine.specs.Lists.{is}
use Rattle.rules_machine.specs.State.{SignalRecord}
use Rattle.kernel_signals.specs.Kept.{records_of}
use Rattle.kernel_signals.proofs.Timing.{tells_any}
use Rattle.kernel_signals.proofs.pending.Pending.is_pending_from_timer.Goals as goal

pub returns : goal.returns
returns c =
    let p = c.self.inside in
    c.has_any.ensures.value ∙ tells_any p.timed (records_of p.records.items p.arrivals.order) c.args.k c.has_any.ensures.small c.self.invariant.timed
    ∙ ap (λ (rs : List SignalRecord). list_any (λ (r : SignalRecord). is r.timer c.args.k) rs) c.self.view_is
