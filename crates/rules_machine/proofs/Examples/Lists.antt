-- Worked examples. The lists of runnable threads: SCHED_FIFO and SCHED_RR.
use Rattle.std.specs.Prelude.{[], ◌∷◌, ◌≡◌, Some, codes, refl}
use Rattle.std.specs.Fmt.{digits}
use Rattle.words_script.specs.declared.call.Call.TheVariants as call
use Rattle.words_script.specs.declared.policy.Policy.TheVariants as policy
use Rattle.words_script.specs.declared.decl.Decl.TheVariants as decl
use Rattle.words_script.specs.declared.decl.Kind.TheVariants as kind
use Rattle.words_script.specs.Block.{Nothing, Running, Making}
use Rattle.words_script.specs.declared.decl.Script.{Script}
use Rattle.rules_machine.specs.Priorities.{exec_in}
use Rattle.rules_machine.specs.Machine.{trace}
use Rattle.rules_machine.proofs.Examples.Trace.{text_of}

-- A preempted thread becomes the head of its list.
abbrev preempted_thread_resumes_at_the_head_script : Script
preempted_thread_resumes_at_the_head_script = record {
  version = 1;
  quantum = 10;
  decls =
      decl.Named (codes "a") (kind.Thread (policy.Fifo 5) (Some 0) (Running 4 Nothing))
      ∷ decl.Named (codes "b") (kind.Thread (policy.Fifo 5) (Some 0) (Running 1 Nothing))
      ∷ decl.Named (codes "c") (kind.Thread (policy.Fifo 9) (Some 2) (Running 1 Nothing))
      ∷ [];
}

pub preempted_thread_resumes_at_the_head : trace preempted_thread_resumes_at_the_head_script 12 ≡ text_of (codes "0 start a"
    ∷ codes "0 start b"
    ∷ codes "0 dispatch a 5"
    ∷ codes "2 start c"
    ∷ codes "2 dispatch c 9"
    ∷ codes "4 exit c"
    ∷ codes "4 dispatch a 5"
    ∷ codes "7 exit a"
    ∷ codes "7 dispatch b 5"
    ∷ codes "9 exit b"
    ∷ codes "9 idle"
    ∷ codes "12 end"
    ∷ codes "thread a ticks 5"
    ∷ codes "thread b ticks 2"
    ∷ codes "thread c ticks 2"
    ∷ [])
unfolding digits exec_in
preempted_thread_resumes_at_the_head = refl

-- A round robin thread that is preempted has the rest of its interval when it runs again.
abbrev round_robin_interval_survives_preemption_script : Script
round_robin_interval_survives_preemption_script = record {
  version = 1;
  quantum = 4;
  decls =
      decl.Named (codes "a") (kind.Thread (policy.Rr 5) (Some 0) (Running 6 Nothing))
      ∷ decl.Named (codes "b") (kind.Thread (policy.Rr 5) (Some 0) (Running 1 Nothing))
      ∷ decl.Named (codes "c") (kind.Thread (policy.Fifo 9) (Some 3) (Running 1 Nothing))
      ∷ [];
}

pub round_robin_interval_survives_preemption : trace round_robin_interval_survives_preemption_script 14 ≡ text_of (codes "0 start a"
    ∷ codes "0 start b"
    ∷ codes "0 dispatch a 5"
    ∷ codes "3 start c"
    ∷ codes "3 dispatch c 9"
    ∷ codes "5 exit c"
    ∷ codes "5 dispatch a 5"
    ∷ codes "6 dispatch b 5"
    ∷ codes "8 exit b"
    ∷ codes "8 dispatch a 5"
    ∷ codes "11 exit a"
    ∷ codes "11 idle"
    ∷ codes "14 end"
    ∷ codes "thread a ticks 7"
    ∷ codes "thread b ticks 2"
    ∷ codes "thread c ticks 2"
    ∷ [])
unfolding digits exec_in
round_robin_interval_survives_preemption = refl

-- pthread_setschedprio to a lower priority makes the thread the head of its list, pthread_setschedparam the tail.
abbrev lowered_priority_goes_to_the_head_and_setsched_to_the_tail_script : Script
lowered_priority_goes_to_the_head_and_setsched_to_the_tail_script = record {
  version = 1;
  quantum = 10;
  decls =
      decl.Named (codes "a") (kind.Thread (policy.Fifo 7) (Some 0) (Running 2 Nothing))
      ∷ decl.Named (codes "b") (kind.Thread (policy.Fifo 5) (Some 0) (Running 1 Nothing))
      ∷ decl.Named (codes "d") (kind.Thread (policy.Fifo 5) (Some 0) (Running 1 Nothing))
      ∷ decl.Named (codes "c") (kind.Thread (policy.Fifo 9) (Some 0) (Making (call.Setprio 0 5) (Making (call.Setsched 1 (policy.Fifo 5)) Nothing)))
      ∷ [];
}

pub lowered_priority_goes_to_the_head_and_setsched_to_the_tail : trace lowered_priority_goes_to_the_head_and_setsched_to_the_tail_script 12 ≡ text_of (codes "0 start a"
    ∷ codes "0 start b"
    ∷ codes "0 start d"
    ∷ codes "0 start c"
    ∷ codes "0 dispatch c 9"
    ∷ codes "1 return c setprio 0 0"
    ∷ codes "2 return c setsched 0 0"
    ∷ codes "3 exit c"
    ∷ codes "3 dispatch a 5"
    ∷ codes "6 exit a"
    ∷ codes "6 dispatch d 5"
    ∷ codes "8 exit d"
    ∷ codes "8 dispatch b 5"
    ∷ codes "10 exit b"
    ∷ codes "10 idle"
    ∷ codes "12 end"
    ∷ codes "thread a ticks 3"
    ∷ codes "thread b ticks 2"
    ∷ codes "thread d ticks 2"
    ∷ codes "thread c ticks 3"
    ∷ [])
unfolding digits exec_in
lowered_priority_goes_to_the_head_and_setsched_to_the_tail = refl
