use Rattle.std.specs.Prelude.{Contains}
use Rattle.std.proofs.Common.{◌<◌, List, Some, length, subst, sym, ap, ◌∙◌, arith}
use Rattle.rules_machine.specs.State.{SignalRecord}
use Rattle.kernel_signals.specs.Choice.{IsLowest, NoneBelow}
use Rattle.kernel_signals.specs.Kept.{records_of}
use Rattle.kernel_signals.proofs.Keeping.{contains_at, to_all}
use Rattle.kernel_signals.proofs.Selecting.{is_selected, none_selected}
use Rattle.kernel_signals.proofs.Walking.{come_below, read_record}
use Rattle.kernel_signals.proofs.pending.Pending.next_in.Goals as goal

pub returns-in_err-node-clause-value : goal.returns-in_err-node-clause-value
returns-in_err-node-clause-value c =
    let p = c.self.inside in let t = c.args.t in let set = c.args.set in
    let none = subst (λ (rs : List SignalRecord). NoneBelow t set rs p.arrivals.order 32) c.deref.ensures.value c.in_err-node.ensures.lowest in
    rw (← c.self.view_is) (c.from_residual.ensures ∙ sym (none_selected t set p.records.items p.arrivals.nodes p.arrivals.order c.in_err-node.ensures.arrivals.each c.self.invariant.ranked none))

pub returns-in_err-node-clause-signals : goal.returns-in_err-node-clause-signals
returns-in_err-node-clause-signals c =
    let p = c.self.inside in
    rw (← c.self.view_is) (to_all (λ (r : SignalRecord). r.signal < 32) (records_of p.records.items p.arrivals.order) c.self.invariant.signals)

pub index-requires : goal.index-requires
index-requires c =
    let p = c.self.inside in let n = c.in_ok-node.node in
    omega (arith, c.self.invariant.nodes, c.self.invariant.known, come_below n p.arrivals.nodes p.arrivals.order c.in_ok-node.ensures.arrivals.each c.in_ok-node.ensures.came)

pub returns-clause-value : goal.returns-clause-value
returns-clause-value c =
    let p = c.self.inside in let n = c.in_ok-node.node in let t = c.args.t in let set = c.args.set in
    let known : n < length p.records.items = omega (arith, c.self.invariant.nodes, c.self.invariant.known, come_below n p.arrivals.nodes p.arrivals.order c.in_ok-node.ensures.arrivals.each c.in_ok-node.ensures.came) in
    let read = read_record p.records.items n c.index.result.now c.index.ensures known in
    let is = subst (λ (rs : List SignalRecord). IsLowest t set rs p.arrivals.order n) c.deref.ensures.value c.in_ok-node.ensures.lowest in
    rw (← c.self.view_is) (ap Some read ∙ sym (is_selected t set p.records.items p.arrivals.order n c.self.invariant.ranked c.self.invariant.rising is))

pub returns-clause-signals : goal.returns-clause-signals
returns-clause-signals c =
    let p = c.self.inside in
    rw (← c.self.view_is) (to_all (λ (r : SignalRecord). r.signal < 32) (records_of p.records.items p.arrivals.order) c.self.invariant.signals)

pub returns-clause-pending : goal.returns-clause-pending
returns-clause-pending c =
    let p = c.self.inside in let n = c.in_ok-node.node in
    let known : n < length p.records.items = omega (arith, c.self.invariant.nodes, c.self.invariant.known, come_below n p.arrivals.nodes p.arrivals.order c.in_ok-node.ensures.arrivals.each c.in_ok-node.ensures.came) in
    let read = read_record p.records.items n c.index.result.now c.index.ensures known in
    rw (← c.self.view_is) (subst (λ (r : SignalRecord). Contains (records_of p.records.items p.arrivals.order) r) (sym read) (contains_at p.records.items n p.arrivals.order c.in_ok-node.ensures.came))
