use Rattle.std.specs.Prelude.{Contains, IfSome, IsSome, Option}
use Rattle.std.proofs.Common.{◌≡◌, ◌<◌, ◌-◌, ℕ, List, length, true, subst, subst₂, sym, ap, ◌∙◌, arith, eqb-true}
use Rattle.rules_machine.specs.State.{SignalRecord}
use Rattle.parts_arrivals.specs.Arrivals.{Arrivals, has_come}
use Rattle.kernel_signals.specs.Kept.{AreKept, record_at, records_of, weight_of}
use Rattle.kernel_signals.specs.Choice.{first_wanted}
use Rattle.kernel_signals.specs.declared.choice.Wanted.TheVariants.{WithSerial}
use Rattle.kernel_signals.proofs.Keeping.{contained, count_without, kept_without, records_without, same_serial}
use Rattle.kernel_signals.proofs.Selecting.{has_serial, wanted_is}
use Rattle.kernel_signals.proofs.Walking.{read_record}
use Rattle.kernel_signals.specs.Timed.{with_one_fewer}
use Rattle.kernel_signals.proofs.pending.Pending.remove.Goals as goal

pub first_wanted-requires-clause-signal : goal.first_wanted-requires-clause-signal
first_wanted-requires-clause-signal c =
    let p = c.self.inside in let r = c.args.taken.now in
    let in_it = subst (λ (rs : List SignalRecord). Contains rs r) (sym c.self.view_is) c.requires in
    subst (λ k. k < 32) (sym c.signal.ensures) (contained (λ (r : SignalRecord). r.signal < 32) (records_of p.records.items p.arrivals.order) r c.self.invariant.signals in_it)

pub unwrap-node-requires : goal.unwrap-node-requires
unwrap-node-requires c =
    let p = c.self.inside in let r = c.args.taken.now in
    let in_it = subst (λ (rs : List SignalRecord). Contains rs r) (sym c.self.view_is) c.requires in
    let found = has_serial r in_it.0 p.records.items p.arrivals.order c.self.invariant.ranked in_it.1 in_it.2 in
    subst (λ (o : Option ℕ). IsSome o) (sym (c.first_wanted.ensures.first
    ∙ ap (λ k. first_wanted (WithSerial k) c.signal.result c.deref.result.now p.arrivals.order) c.serial.ensures
    ∙ ap (λ k. first_wanted (WithSerial r.serial) k c.deref.result.now p.arrivals.order) c.signal.ensures
    ∙ ap (λ (rs : List SignalRecord). first_wanted (WithSerial r.serial) r.signal rs p.arrivals.order) c.deref.ensures.value)) found

pub index-requires : goal.index-requires
index-requires c =
    let p = c.self.inside in let n = c.unwrap-node.result in
    let l = subst (λ (o : Option ℕ). IfSome o (λ n. n < p.arrivals.nodes)) c.unwrap-node.ensures c.first_wanted.ensures.known in
    omega (arith, l, c.self.invariant.nodes, c.self.invariant.known)

pub overflow_sub-self : goal.overflow_sub-self
overflow_sub-self c =
    let p = c.self.inside in let n = c.unwrap-node.result in
    let came = subst (λ (o : Option ℕ). IfSome o (λ n. has_come n p.arrivals.order ≡ true)) c.unwrap-node.ensures c.first_wanted.ensures.came in
    let known : n < length p.records.items = (let l = subst (λ (o : Option ℕ). IfSome o (λ n. n < p.arrivals.nodes)) c.unwrap-node.ensures c.first_wanted.ensures.known in omega (arith, l, c.self.invariant.nodes, c.self.invariant.known)) in
    let read = read_record p.records.items n c.index.result.now c.index.ensures known in
    let weight = c.weight.ensures.value ∙ ap weight_of (c.code.ensures ∙ ap (λ (r : SignalRecord). r.code) read) in
    omega (arith, weight, c.self.invariant.tallied, count_without p.records.items n p.arrivals.order came)

pub invariant_of-self : goal.invariant_of-self
invariant_of-self c =
    let p = c.self.inside in let n = c.unwrap-node.result in
    let came = subst (λ (o : Option ℕ). IfSome o (λ n. has_come n p.arrivals.order ≡ true)) c.unwrap-node.ensures c.first_wanted.ensures.came in
    let known : n < length p.records.items = (let l = subst (λ (o : Option ℕ). IfSome o (λ n. n < p.arrivals.nodes)) c.unwrap-node.ensures c.first_wanted.ensures.known in omega (arith, l, c.self.invariant.nodes, c.self.invariant.known)) in
    let read = read_record p.records.items n c.index.result.now c.index.ensures known in
    let weight = c.weight.ensures.value ∙ ap weight_of (c.code.ensures ∙ ap (λ (r : SignalRecord). r.code) read) in
    let timers = c.remove.ensures ∙ ap (λ o. with_one_fewer o p.timed) (c.timer.ensures ∙ ap (λ (r : SignalRecord). r.timer) read) in
    subst₂ (λ k ts. AreKept c.leave.new.self p.records.items (p.counted - k) ts) (sym weight) (sym timers)
    (kept_without p.records.items n p.arrivals c.leave.new.self p.counted p.timed c.self.invariant came c.leave.ensures)

pub returns : goal.returns
returns c =
    let p = c.self.inside in let n = c.unwrap-node.result in let r = c.args.taken.now in
    let came = subst (λ (o : Option ℕ). IfSome o (λ n. has_come n p.arrivals.order ≡ true)) c.unwrap-node.ensures c.first_wanted.ensures.came in
    let first = sym (c.first_wanted.ensures.first
    ∙ ap (λ k. first_wanted (WithSerial k) c.signal.result c.deref.result.now p.arrivals.order) c.serial.ensures
    ∙ ap (λ k. first_wanted (WithSerial r.serial) k c.deref.result.now p.arrivals.order) c.signal.ensures
    ∙ ap (λ (rs : List SignalRecord). first_wanted (WithSerial r.serial) r.signal rs p.arrivals.order) c.deref.ensures.value) ∙ c.unwrap-node.ensures in
    let serial = eqb-true (record_at p.records.items n).serial r.serial (wanted_is (WithSerial r.serial) r.signal n p.records.items p.arrivals.order first) in
    rw (← c.self.view_is) (ap (λ (a : Arrivals). records_of p.records.items a.order) c.leave.ensures
    ∙ records_without p.records.items n p.arrivals.order c.self.invariant.rising came
    ∙ same_serial (record_at p.records.items n) r (records_of p.records.items p.arrivals.order) serial)
