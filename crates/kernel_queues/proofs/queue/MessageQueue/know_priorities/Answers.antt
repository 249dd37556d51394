use Rattle.std.specs.List.{AllByRecursion}
use Rattle.std.proofs.Common.{◌<◌, subst}
use Rattle.rules_machine.specs.State.{Message, Queue}
use Rattle.kernel_queues.proofs.Ranks.{priorities_small}
use Rattle.kernel_queues.proofs.queue.MessageQueue.know_priorities.Goals as goal

pub returns : goal.returns
returns c =
    let q = c.self.inside in
    subst (λ (queue : Queue). AllByRecursion (λ (m : Message). m.priority < 32) queue.messages) c.self.view_is
    (priorities_small q.arrivals.nodes q.values.items q.arrivals.order c.len.ensures.arrivals.each)
