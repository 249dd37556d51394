use Rattle.std.specs.Prelude.{Option}
use Rattle.std.proofs.Common.{◌<◌, ◌-◌, List, Some, length, subst, subst₂, sym, ap, ◌∙◌, arith}
use Rattle.rules_machine.specs.State.{SignalRecord}
use Rattle.parts_arrivals.specs.Arrivals.{Arrivals}
use Rattle.kernel_signals.specs.Choice.{IsLowest, NoneBelow, without_one}
use Rattle.kernel_signals.specs.Kept.{AreKept, records_of, weight_of}
use Rattle.kernel_signals.proofs.Keeping.{count_without, kept_without, records_without}
use Rattle.kernel_signals.proofs.Selecting.{is_selected, none_selected}
use Rattle.kernel_signals.proofs.Walking.{come_below, read_record}
use Rattle.kernel_signals.specs.Timed.{with_one_fewer}
use Rattle.kernel_signals.proofs.pending.Pending.take_in.Goals as goal

pub returns-in_err-node-clause-value : goal.returns-in_err-node-clause-value
returns-in_err-node-clause-value c =
    let p = c.self.inside in let t = c.args.t in let set = c.args.set in
    let none = subst (λ (rs : List SignalRecord). NoneBelow t set rs p.arrivals.order 32) c.deref.ensures.value c.in_err-node.ensures.lowest in
    rw (← c.self.view_is) (c.from_residual.ensures ∙ sym (none_selected t set p.records.items p.arrivals.nodes p.arrivals.order c.in_err-node.ensures.arrivals.each c.self.invariant.ranked none))

pub returns-in_err-node-clause-rest : goal.returns-in_err-node-clause-rest
returns-in_err-node-clause-rest c =
    let p = c.self.inside in let t = c.args.t in let set = c.args.set in
    let none = subst (λ (rs : List SignalRecord). NoneBelow t set rs p.arrivals.order 32) c.deref.ensures.value c.in_err-node.ensures.lowest in
    rw (← c.self.view_is) (sym (ap (λ (o : Option SignalRecord). without_one o (records_of p.records.items p.arrivals.order))
    (none_selected t set p.records.items p.arrivals.nodes p.arrivals.order c.in_err-node.ensures.arrivals.each c.self.invariant.ranked none)))

pub index-requires : goal.index-requires
index-requires c =
    let p = c.self.inside in let n = c.in_ok-node.node in
    omega (arith, c.self.invariant.nodes, c.self.invariant.known, come_below n p.arrivals.nodes p.arrivals.order c.in_ok-node.ensures.arrivals.each c.in_ok-node.ensures.came)

pub overflow_sub-self : goal.overflow_sub-self
overflow_sub-self c =
    let p = c.self.inside in let n = c.in_ok-node.node in
    let known : n < length p.records.items = omega (arith, c.self.invariant.nodes, c.self.invariant.known, come_below n p.arrivals.nodes p.arrivals.order c.in_ok-node.ensures.arrivals.each c.in_ok-node.ensures.came) in
    let read = read_record p.records.items n c.index.result.now c.index.ensures known in
    let weight = c.weight.ensures.value ∙ ap weight_of (c.code.ensures ∙ ap (λ (r : SignalRecord). r.code) read) in
    omega (arith, weight, c.self.invariant.tallied, count_without p.records.items n p.arrivals.order c.in_ok-node.ensures.came)

pub invariant_of-self : goal.invariant_of-self
invariant_of-self c =
    let p = c.self.inside in let n = c.in_ok-node.node in
    let known : n < length p.records.items = omega (arith, c.self.invariant.nodes, c.self.invariant.known, come_below n p.arrivals.nodes p.arrivals.order c.in_ok-node.ensures.arrivals.each c.in_ok-node.ensures.came) in
    let read = read_record p.records.items n c.index.result.now c.index.ensures known in
    let weight = c.weight.ensures.value ∙ ap weight_of (c.code.ensures ∙ ap (λ (r : SignalRecord). r.code) read) in
    let timers = c.remove.ensures ∙ ap (λ o. with_one_fewer o p.timed) (c.timer.ensures ∙ ap (λ (r : SignalRecord). r.timer) read) in
    subst₂ (λ k ts. AreKept c.leave.new.self p.records.items (p.counted - k) ts) (sym weight) (sym timers)
    (kept_without p.records.items n p.arrivals c.leave.new.self p.counted p.timed c.self.invariant c.in_ok-node.ensures.came c.leave.ensures)

pub returns-clause-value : goal.returns-clause-value
returns-clause-value c =
    let p = c.self.inside in let n = c.in_ok-node.node in let t = c.args.t in let set = c.args.set in
    let known : n < length p.records.items = omega (arith, c.self.invariant.nodes, c.self.invariant.known, come_below n p.arrivals.nodes p.arrivals.order c.in_ok-node.ensures.arrivals.each c.in_ok-node.ensures.came) in
    let read = read_record p.records.items n c.index.result.now c.index.ensures known in
    let is = subst (λ (rs : List SignalRecord). IsLowest t set rs p.arrivals.order n) c.deref.ensures.value c.in_ok-node.ensures.lowest in
    rw (← c.self.view_is) (ap Some read ∙ sym (is_selected t set p.records.items p.arrivals.order n c.self.invariant.ranked c.self.invariant.rising is))

pub returns-clause-rest : goal.returns-clause-rest
returns-clause-rest c =
    let p = c.self.inside in let n = c.in_ok-node.node in let t = c.args.t in let set = c.args.set in
    let is = subst (λ (rs : List SignalRecord). IsLowest t set rs p.arrivals.order n) c.deref.ensures.value c.in_ok-node.ensures.lowest in
    let selected = is_selected t set p.records.items p.arrivals.order n c.self.invariant.ranked c.self.invariant.rising is in
    rw (← c.self.view_is) (ap (λ (a : Arrivals). records_of p.records.items a.order) c.leave.ensures
    ∙ records_without p.records.items n p.arrivals.order c.self.invariant.rising c.in_ok-node.ensures.came
    ∙ sym (ap (λ (o : Option SignalRecord). without_one o (records_of p.records.items p.arrivals.order)) selected))
