use Rattle.std.specs.List.{AllByRecursion}
use Rattle.std.proofs.Common.{◌<◌, ◌+◌, ◌∷◌, ◌++◌, [], List, length, set, subst, subst₂, sym, ap, ◌∙◌, arith}
use Rattle.rules_machine.specs.State.{SignalRecord}
use Rattle.parts_arrivals.specs.Arrivals.{Arrivals}
use Rattle.kernel_signals.specs.Kept.{AreKept, records_of, weight_of}
use Rattle.kernel_signals.proofs.Keeping.{by_recursion, few_counted, kept_with, length_records, records_with}
use Rattle.kernel_signals.specs.Timed.{with_one}
use Rattle.kernel_signals.proofs.Timing.{room_at}
use Rattle.kernel_signals.proofs.pending.Pending.add.Goals as goal

pub overflow_add-self : goal.overflow_add-self
overflow_add-self c =
    let p = c.self.inside in
    omega (arith, c.self.invariant.tallied, few_counted p.records.items p.arrivals.order, c.requires.room, ap (λ (rs : List SignalRecord). length rs) c.self.view_is, length_records p.records.items p.arrivals.order, c.weight.ensures.small)

pub invariant_of-self : goal.invariant_of-self
invariant_of-self c =
    let p = c.self.inside in let n = c.enter-node.result in let v = c.pending_since.result in
    let signal = c.signal.ensures ∙ sym (ap (λ (r : SignalRecord). r.signal) c.pending_since.ensures) in
    let is = c.enter-node.ensures.last ∙ ap (λ k. record p.arrivals { order = p.arrivals.order ++ record { node = n; rank = k } ∷ [] }) signal in
    let all = by_recursion (λ (r : SignalRecord). r.serial < c.args.serial) c.args.self.now c.requires.youngest in
    let seen = subst (λ (rs : List SignalRecord). AllByRecursion (λ (r : SignalRecord). r.serial < c.args.serial) rs) (sym c.self.view_is) all in
    let young = subst (λ k. AllByRecursion (λ (r : SignalRecord). r.serial < k) (records_of p.records.items p.arrivals.order)) (sym (ap (λ (r : SignalRecord). r.serial) c.pending_since.ensures)) seen in
    let small = subst (λ k. k < 32) (sym (ap (λ (r : SignalRecord). r.signal) c.pending_since.ensures)) c.requires.signal in
    let weight = c.weight.ensures.value ∙ ap weight_of (c.code.ensures ∙ sym (ap (λ (r : SignalRecord). r.code) c.pending_since.ensures)) in
    let timers = c.add.ensures ∙ ap (λ o. with_one o p.timed) (c.timer.ensures ∙ sym (ap (λ (r : SignalRecord). r.timer) c.pending_since.ensures)) in
    subst₂ (λ k ts. AreKept c.enter-node.new.self (set p.records.items n v) (p.counted + k) ts) (sym weight) (sym timers)
    (kept_with p.arrivals c.enter-node.new.self p.records.items p.counted n p.timed v c.self.invariant small c.enter-node.ensures.known c.enter-node.ensures.fresh is young)

pub returns : goal.returns
returns c =
    let p = c.self.inside in let n = c.enter-node.result in let v = c.pending_since.result in
    let seen = ap (λ (a : Arrivals). records_of (set p.records.items n v) a.order) c.enter-node.ensures.last in
    let with = records_with p.records.items n c.signal.result v p.arrivals.order (omega (arith, c.enter-node.ensures.known, c.self.invariant.nodes, c.self.invariant.known)) c.enter-node.ensures.fresh in
    rw (← c.self.view_is) (seen ∙ with ∙ ap (λ (r : SignalRecord). records_of p.records.items p.arrivals.order ++ r ∷ []) c.pending_since.ensures)

pub add-requires : goal.add-requires
add-requires c =
    let p = c.self.inside in
    room_at p.timed (records_of p.records.items p.arrivals.order) c.timer.result c.self.invariant.long c.self.invariant.timed (omega (arith, c.requires.room, ap (λ (rs : List SignalRecord). length rs) c.self.view_is))
