-- Worked examples. Message queues and joins.
use Rattle.std.specs.Prelude.{[], ◌∷◌, ◌≡◌, Some, None, false, codes, refl}
use Rattle.std.specs.Fmt.{digits}
use Rattle.words_script.specs.declared.call.Call.TheVariants as call
use Rattle.words_script.specs.declared.call.Moment.TheVariants as moment
use Rattle.words_script.specs.declared.call.Operand.TheVariants as operand
use Rattle.words_script.specs.declared.policy.Policy.TheVariants as policy
use Rattle.words_script.specs.declared.decl.Decl.TheVariants as decl
use Rattle.words_script.specs.declared.decl.Kind.TheVariants as kind
use Rattle.words_script.specs.Block.{Nothing, Running, Making}
use Rattle.words_script.specs.declared.decl.Script.{Script}
use Rattle.rules_machine.specs.Priorities.{exec_in}
use Rattle.rules_machine.specs.Machine.{trace}
use Rattle.rules_machine.proofs.Examples.Trace.{text_of}

-- A message that enters an empty queue fires the registration, and one that is handed to a receiver does not.
abbrev notification_of_an_empty_queue_script : Script
notification_of_an_empty_queue_script = record {
  version = 1;
  quantum = 10;
  decls =
      decl.Named (codes "q") (kind.Queue 2 8 false)
      ∷ decl.Action 1 (Some 0)
      ∷ decl.Named (codes "g") (kind.Handler (Running 1 Nothing))
      ∷ decl.Named (codes "r") (kind.Thread (policy.Fifo 6) (Some 0) (Making (call.MqReceive 0) Nothing))
      ∷ decl.Named (codes "w") (kind.Thread (policy.Fifo 5) (Some 0) (Making (call.MqNotify 0 1 (operand.Num 7)) (Making (call.MqNotify 0 1 (operand.Num 8)) (Making (call.MqSend 0 4 0 (operand.Num 11)) (Making (call.MqSend 0 4 1 (operand.Num 12)) (Making (call.MqReceive 0) Nothing))))))
      ∷ [];
}

pub notification_of_an_empty_queue : trace notification_of_an_empty_queue_script 10 ≡ text_of (codes "0 start r"
    ∷ codes "0 start w"
    ∷ codes "0 dispatch r 6"
    ∷ codes "1 dispatch w 5"
    ∷ codes "2 return w mq_notify 0 0"
    ∷ codes "3 return w mq_notify EBUSY 0"
    ∷ codes "4 return w mq_send 0 0"
    ∷ codes "4 return r mq_receive 0 11"
    ∷ codes "4 dispatch r 6"
    ∷ codes "5 exit r"
    ∷ codes "5 dispatch w 5"
    ∷ codes "6 return w mq_send 0 0"
    ∷ codes "6 deliver w rt1 MESGQ 7"
    ∷ codes "9 return w mq_receive 0 12"
    ∷ codes "10 exit w"
    ∷ codes "10 end"
    ∷ codes "thread r ticks 2"
    ∷ codes "thread w ticks 8"
    ∷ [])
unfolding digits exec_in
notification_of_an_empty_queue = refl

-- A receiver makes room for the message of a sender that waits.
abbrev full_queue_hands_over_from_its_sender_script : Script
full_queue_hands_over_from_its_sender_script = record {
  version = 1;
  quantum = 10;
  decls =
      decl.Named (codes "q") (kind.Queue 1 8 false)
      ∷ decl.Named (codes "w") (kind.Thread (policy.Fifo 6) (Some 0) (Making (call.MqSend 0 1 0 (operand.Num 1)) (Making (call.MqSend 0 9 0 (operand.Num 9)) (Making (call.MqSend 0 1 3 (operand.Num 2)) Nothing))))
      ∷ decl.Named (codes "r") (kind.Thread (policy.Fifo 5) (Some 0) (Making (call.MqReceive 0) (Making (call.MqReceive 0) (Making (call.MqTimedreceive 0 (moment.Monotonic (operand.Num 3))) Nothing))))
      ∷ [];
}

pub full_queue_hands_over_from_its_sender : trace full_queue_hands_over_from_its_sender_script 10 ≡ text_of (codes "0 start w"
    ∷ codes "0 start r"
    ∷ codes "0 dispatch w 6"
    ∷ codes "1 return w mq_send 0 0"
    ∷ codes "2 return w mq_send EMSGSIZE 0"
    ∷ codes "3 dispatch r 5"
    ∷ codes "4 return r mq_receive 0 1"
    ∷ codes "4 return w mq_send 0 0"
    ∷ codes "4 dispatch w 6"
    ∷ codes "5 exit w"
    ∷ codes "5 dispatch r 5"
    ∷ codes "6 return r mq_receive 0 2"
    ∷ codes "7 return r mq_timedreceive ETIMEDOUT 0"
    ∷ codes "8 exit r"
    ∷ codes "8 idle"
    ∷ codes "10 end"
    ∷ codes "thread w ticks 4"
    ∷ codes "thread r ticks 4"
    ∷ [])
unfolding digits exec_in
full_queue_hands_over_from_its_sender = refl

-- Each answer of pthread_join.
abbrev join_answers_script : Script
join_answers_script = record {
  version = 1;
  quantum = 10;
  decls =
      decl.Named (codes "a") (kind.Thread (policy.Fifo 5) (Some 0) (Making (call.Join 1) (Making (call.Create 1) (Making (call.Join 1) (Making (call.Join 1) (Making (call.Join 0) Nothing))))))
      ∷ decl.Named (codes "b") (kind.Thread (policy.Fifo 4) None (Making (call.Exit (operand.Num 7)) Nothing))
      ∷ [];
}

pub join_answers : trace join_answers_script 10 ≡ text_of (codes "0 start a"
    ∷ codes "0 dispatch a 5"
    ∷ codes "1 return a join ESRCH 0"
    ∷ codes "2 return a create 0 0"
    ∷ codes "2 start b"
    ∷ codes "3 dispatch b 4"
    ∷ codes "5 exit b"
    ∷ codes "5 return a join 0 7"
    ∷ codes "5 dispatch a 5"
    ∷ codes "6 return a join EINVAL 0"
    ∷ codes "7 return a join EDEADLK 0"
    ∷ codes "8 exit a"
    ∷ codes "8 idle"
    ∷ codes "10 end"
    ∷ codes "thread a ticks 6"
    ∷ codes "thread b ticks 2"
    ∷ [])
unfolding digits exec_in
join_answers = refl
