-- Worked examples. What states hold that no line of a trace shows.
use Rattle.std.specs.Prelude.{[], ◌∷◌, ◌≡◌, Some, codes, false, refl}
use Rattle.words_script.specs.declared.call.Call.TheVariants as call
use Rattle.words_script.specs.declared.policy.Policy.TheVariants as policy
use Rattle.words_script.specs.declared.policy.Protocol.TheVariants as protocol
use Rattle.words_script.specs.declared.decl.Decl.TheVariants as decl
use Rattle.words_script.specs.declared.decl.Kind.TheVariants as kind
use Rattle.words_script.specs.Block.{Nothing, Running, Making}
use Rattle.words_script.specs.declared.decl.Script.{Script}
use Rattle.rules_machine.specs.Priorities.{exec_in}
use Rattle.rules_machine.specs.Threads.{mutex_at, thread_at}
use Rattle.rules_machine.specs.Machine.{machine}

-- The lower thread owns the mutex when the higher one starts and asks for it.
abbrev mutex_is_handed_over_script : Script
mutex_is_handed_over_script = record {
  version = 1;
  quantum = 10;
  decls =
      decl.Named (codes "m") (kind.Mutex protocol.Plain false)
      ∷ decl.Named (codes "a") (kind.Thread (policy.Fifo 5) (Some 0) (Making (call.Lock 0) (Making (call.Unlock 0) Nothing)))
      ∷ decl.Named (codes "b") (kind.Thread (policy.Fifo 9) (Some 1) (Making (call.Lock 0) (Running 5 Nothing)))
      ∷ [];
}

-- b locks at 1 and waits; a unlocks at 2, and b owns it, once
pub handed_over_to_the_waiter : (mutex_at (machine mutex_is_handed_over_script 3) 0).owner ≡ Some 1
unfolding exec_in
handed_over_to_the_waiter = refl

pub handed_over_counts_once : (mutex_at (machine mutex_is_handed_over_script 3) 0).count ≡ 1
unfolding exec_in
handed_over_counts_once = refl

-- A round robin thread sleeps after two ticks of its interval.
abbrev round_robin_thread_sleeps_script : Script
round_robin_thread_sleeps_script = record {
  version = 1;
  quantum = 4;
  decls = decl.Named (codes "a") (kind.Thread (policy.Rr 5) (Some 0) (Running 2 (Making (call.Nanosleep 3) (Running 5 Nothing)))) ∷ [];
}

-- three ticks, the call's among them, are of its interval while it sleeps
pub interval_of_a_sleeper : (thread_at (machine round_robin_thread_sleeps_script 3) 0).slice ≡ 3
unfolding exec_in
interval_of_a_sleeper = refl

-- and awake it has a new one, of which it has run one tick
pub interval_is_new_after_a_wake : (thread_at (machine round_robin_thread_sleeps_script 7) 0).slice ≡ 1
unfolding exec_in
interval_is_new_after_a_wake = refl
