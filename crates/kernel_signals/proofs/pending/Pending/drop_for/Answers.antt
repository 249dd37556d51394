use Rattle.std.proofs.Common.{subst, List, ap, ◌∙◌}
use Rattle.rules_machine.specs.State.{SignalRecord}
use Rattle.parts_arrivals.specs.Arrivals.{Arrivals}
use Rattle.kernel_signals.specs.Ages.{kept_for}
use Rattle.kernel_signals.specs.Kept.{counted_in, records_of}
use Rattle.kernel_signals.specs.Timed.{AreTimed}
use Rattle.kernel_signals.proofs.ByAge.{kept_stay, records_kept}
use Rattle.kernel_signals.proofs.pending.Pending.drop_for.Goals as goal

pub invariant_of-self : goal.invariant_of-self
invariant_of-self c =
    let p = c.self.inside in let new = c.drop_for-self-inside.new.arrivals in
    let order = c.drop_for-self-inside.ensures.order ∙ ap (λ (rs : List SignalRecord). record p.arrivals { order = kept_for c.args.t rs p.arrivals.order }) c.deref.ensures.value in
    kept_stay c.args.t p.counted c.drop_for-self-inside.result p.records.items p.arrivals new p.timed c.drop_for-self-inside.new.timed c.self.invariant order
    (c.drop_for-self-inside.ensures.counted ∙ ap (λ (rs : List SignalRecord). counted_in (records_of rs new.order)) c.deref.ensures.value)
    c.drop_for-self-inside.ensures.long
    (subst (λ (rs : List SignalRecord). AreTimed c.drop_for-self-inside.new.timed (records_of rs new.order)) c.deref.ensures.value c.drop_for-self-inside.ensures.timed)

pub returns : goal.returns
returns c =
    let p = c.self.inside in
    let order = c.drop_for-self-inside.ensures.order ∙ ap (λ (rs : List SignalRecord). record p.arrivals { order = kept_for c.args.t rs p.arrivals.order }) c.deref.ensures.value in
    rw (← c.self.view_is) (ap (λ (a : Arrivals). records_of p.records.items a.order) order ∙ records_kept c.args.t p.records.items p.arrivals.order)
