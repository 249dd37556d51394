use Rattle.std.specs.Prelude.{IsSome, Option, true}
use Rattle.std.proofs.Common.{◌≡◌, ℕ, Some, None, subst, sym, ap, ◌∙◌, arith}
use Rattle.parts_arrivals.specs.Arrivals.{Arrivals, first_of_rank, highest_rank}
use Rattle.rules_machine.specs.Queues.{has_room}
use Rattle.kernel_queues.specs.Messages.{messages_of}
use Rattle.kernel_queues.proofs.Choice.{come_below, has_first, next_chosen, no_rest, no_value, read_value, rest_taken, room_taken, seen, value_taken}
use Rattle.kernel_queues.proofs.queue.MessageQueue.take_in_full.Goals as goal

pub returns-in_err-priority-clause-value : goal.returns-in_err-priority-clause-value
returns-in_err-priority-clause-value c =
    let q = c.self.inside in let none : highest_rank q.arrivals.order ≡ None = sym c.highest.ensures.value ∙ c.in_err-priority.was in
    rw (← c.self.view_is) (c.from_residual.ensures ∙ no_value q.values.items q.arrivals.order q.depth q.longest q.is_nonblock q.registration none)

pub returns-in_err-priority-clause-rest : goal.returns-in_err-priority-clause-rest
returns-in_err-priority-clause-rest c =
    let q = c.self.inside in let none : highest_rank q.arrivals.order ≡ None = sym c.highest.ensures.value ∙ c.in_err-priority.was in
    rw (← c.self.view_is) (no_rest q.values.items q.arrivals.order q.depth q.longest q.is_nonblock q.registration none)

pub unwrap-node-requires : goal.unwrap-node-requires
unwrap-node-requires c =
    let q = c.self.inside in let p = c.in_ok-priority.priority in
    let top : highest_rank q.arrivals.order ≡ Some p = sym c.highest.ensures.value ∙ c.in_ok-priority.was in
    subst (λ (o : Option ℕ). IsSome o) (sym c.first.ensures.value) (has_first q.arrivals.order p top)

pub leave-requires : goal.leave-requires
leave-requires c =
    let q = c.self.inside in let p = c.in_ok-priority.priority in let n = c.unwrap-node.result in
    let top : highest_rank q.arrivals.order ≡ Some p = sym c.highest.ensures.value ∙ c.in_ok-priority.was in
    let first : first_of_rank p q.arrivals.order ≡ Some n = sym c.first.ensures.value ∙ c.unwrap-node.ensures in
    (next_chosen q.values.items q.arrivals.order p n top first c.first.ensures.arrivals.distinct).came

pub index-requires : goal.index-requires
index-requires c =
    let q = c.self.inside in let p = c.in_ok-priority.priority in let n = c.unwrap-node.result in
    let top : highest_rank q.arrivals.order ≡ Some p = sym c.highest.ensures.value ∙ c.in_ok-priority.was in
    let first : first_of_rank p q.arrivals.order ≡ Some n = sym c.first.ensures.value ∙ c.unwrap-node.ensures in
    let came = (next_chosen q.values.items q.arrivals.order p n top first c.first.ensures.arrivals.distinct).came in
    omega (arith, c.self.invariant, come_below n q.arrivals.nodes q.arrivals.order c.first.ensures.arrivals.each came)

pub returns-clause-value : goal.returns-clause-value
returns-clause-value c =
    let q = c.self.inside in let p = c.in_ok-priority.priority in let n = c.unwrap-node.result in
    let top : highest_rank q.arrivals.order ≡ Some p = sym c.highest.ensures.value ∙ c.in_ok-priority.was in
    let first : first_of_rank p q.arrivals.order ≡ Some n = sym c.first.ensures.value ∙ c.unwrap-node.ensures in
    let next = next_chosen q.values.items q.arrivals.order p n top first c.first.ensures.arrivals.distinct in
    let read = read_value q.values.items n c.index.result.now c.index.ensures (omega (arith, c.self.invariant, come_below n q.arrivals.nodes q.arrivals.order c.first.ensures.arrivals.each next.came)) in
    rw (← c.self.view_is) (value_taken q.values.items q.arrivals.order n c.index.result.now q.depth q.longest q.is_nonblock q.registration next read)

pub returns-clause-rest : goal.returns-clause-rest
returns-clause-rest c =
    let q = c.self.inside in let p = c.in_ok-priority.priority in let n = c.unwrap-node.result in
    let top : highest_rank q.arrivals.order ≡ Some p = sym c.highest.ensures.value ∙ c.in_ok-priority.was in
    let first : first_of_rank p q.arrivals.order ≡ Some n = sym c.first.ensures.value ∙ c.unwrap-node.ensures in
    let next = next_chosen q.values.items q.arrivals.order p n top first c.first.ensures.arrivals.distinct in
    let order = ap (λ (a : Arrivals). seen q.depth q.longest q.is_nonblock (messages_of q.values.items a.order) q.registration) c.leave.ensures in
    rw (← c.self.view_is) (order ∙ rest_taken q.values.items q.arrivals.order n q.depth q.longest q.is_nonblock q.registration next)

pub returns-clause-room : goal.returns-clause-room
returns-clause-room c =
    let q = c.self.inside in let p = c.in_ok-priority.priority in let n = c.unwrap-node.result in
    let top : highest_rank q.arrivals.order ≡ Some p = sym c.highest.ensures.value ∙ c.in_ok-priority.was in
    let first : first_of_rank p q.arrivals.order ≡ Some n = sym c.first.ensures.value ∙ c.unwrap-node.ensures in
    let came = (next_chosen q.values.items q.arrivals.order p n top first c.first.ensures.arrivals.distinct).came in
    let room = room_taken q.values.items q.arrivals.order n q.arrivals.nodes q.depth q.longest q.is_nonblock q.registration came c.first.ensures.arrivals.few c.self.invariant.0 in
    subst (λ (a : Arrivals). has_room (seen q.depth q.longest q.is_nonblock (messages_of q.values.items a.order) q.registration) ≡ true) (sym c.leave.ensures) room
