use Rattle.kernel_texts.proofs.Puts.{puts_two}
use Rattle.kernel_object_facts.proofs.rows.put_queue_waiters.Goals as goal

pub returns : goal.returns
returns g c = puts_two _ _ _ _ _ _ _ c.put_senders.ensures c.put_receivers.ensures
