use Rattle.std.proofs.Common.{List, set, ap, ◌∙◌, arith}
use Rattle.rules_machine.specs.State.{Message}
use Rattle.parts_arrivals.specs.Arrivals.{Arrivals}
use Rattle.kernel_queues.specs.Messages.{messages_of}
use Rattle.kernel_queues.proofs.Choice.{messages_with, seen}
use Rattle.kernel_queues.proofs.queue.MessageQueue.put.Goals as goal

pub returns : goal.returns
returns c =
    let q = c.self.inside in let n = c.enter-node.result in let v = c.args.value in let old = q.values.items in
    let order = ap (λ (a : Arrivals). messages_of (set old n v) a.order) c.enter-node.ensures.last in
    let with = messages_with old n c.args.priority v q.arrivals.order (omega (arith, c.self.invariant, c.enter-node.ensures.known)) c.enter-node.ensures.fresh in
    rw (← c.self.view_is) (ap (λ (ms : List Message). seen q.depth q.longest q.is_nonblock ms q.registration) (order ∙ with))
