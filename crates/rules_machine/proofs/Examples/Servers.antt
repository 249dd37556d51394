-- Worked examples. Sporadic servers.
use Rattle.std.specs.Prelude.{[], ◌∷◌, ◌≡◌, Some, false, codes, refl}
use Rattle.std.specs.Fmt.{digits}
use Rattle.words_script.specs.declared.call.Call.TheVariants as call
use Rattle.words_script.specs.declared.call.Operand.TheVariants as operand
use Rattle.words_script.specs.declared.policy.Policy.TheVariants as policy
use Rattle.words_script.specs.declared.policy.Protocol.TheVariants as protocol
use Rattle.words_script.specs.declared.decl.Decl.TheVariants as decl
use Rattle.words_script.specs.declared.decl.Kind.TheVariants as kind
use Rattle.words_script.specs.Block.{Nothing, Running, Making}
use Rattle.words_script.specs.declared.decl.Script.{Script}
use Rattle.rules_machine.specs.Priorities.{exec_in}
use Rattle.rules_machine.specs.Machine.{trace}
use Rattle.rules_machine.proofs.Examples.Trace.{text_of}

-- A budget that is used up late comes back early: six ticks at the high priority in one period of ten, with a budget of three.
abbrev pub six_high_ticks_in_one_period_script : Script
six_high_ticks_in_one_period_script = record {
  version = 1;
  quantum = 10;
  decls =
      decl.Named (codes "s") (kind.Thread (policy.Sporadic (record { high = 8; low = 2; period = 10; budget = 3; max = 4 })) (Some 2) (Running 8 Nothing))
      ∷ decl.Named (codes "h") (kind.Thread (policy.Fifo 9) (Some 0) (Running 8 Nothing))
      ∷ [];
}

pub six_high_ticks_in_one_period : trace six_high_ticks_in_one_period_script 17 ≡ text_of (codes "0 start h"
    ∷ codes "0 dispatch h 9"
    ∷ codes "2 start s"
    ∷ codes "2 activate s 3"
    ∷ codes "9 exit h"
    ∷ codes "9 dispatch s 8"
    ∷ codes "12 exhaust s"
    ∷ codes "12 plan s 3 12"
    ∷ codes "12 refill s 3 3"
    ∷ codes "12 activate s 3"
    ∷ codes "15 exhaust s"
    ∷ codes "15 plan s 3 22"
    ∷ codes "17 end"
    ∷ codes "thread s ticks 8 high 6 init 3 refilled 3 capacity 0"
    ∷ codes "thread h ticks 9"
    ∷ [])
unfolding digits exec_in
six_high_ticks_in_one_period = refl

-- The same under a strict server: three.
abbrev three_high_ticks_in_one_period_script : Script
three_high_ticks_in_one_period_script = record {
  version = 2;
  quantum = 10;
  decls =
      decl.Named (codes "s") (kind.Thread (policy.Strict (record { high = 8; low = 2; period = 10; budget = 3; max = 4 })) (Some 2) (Running 8 Nothing))
      ∷ decl.Named (codes "h") (kind.Thread (policy.Fifo 9) (Some 0) (Running 8 Nothing))
      ∷ [];
}

pub three_high_ticks_in_one_period : trace three_high_ticks_in_one_period_script 17 ≡ text_of (codes "0 start h"
    ∷ codes "0 dispatch h 9"
    ∷ codes "2 start s"
    ∷ codes "9 exit h"
    ∷ codes "9 dispatch s 8"
    ∷ codes "9 activate s 3"
    ∷ codes "12 exhaust s"
    ∷ codes "12 plan s 3 19"
    ∷ codes "17 end"
    ∷ codes "thread s ticks 8 high 3 init 3 refilled 0 capacity 0"
    ∷ codes "thread h ticks 9"
    ∷ [])
unfolding digits exec_in
three_high_ticks_in_one_period = refl

-- A run that is preempted is closed, and what is planned with one pending at most joins it.
abbrev a_preempted_run_is_closed_script : Script
a_preempted_run_is_closed_script = record {
  version = 2;
  quantum = 10;
  decls =
      decl.Named (codes "s") (kind.Thread (policy.Strict (record { high = 8; low = 2; period = 10; budget = 4; max = 1 })) (Some 0) (Running 20 Nothing))
      ∷ decl.Named (codes "h") (kind.Thread (policy.Fifo 9) (Some 2) (Running 1 Nothing))
      ∷ [];
}

pub a_preempted_run_is_closed : trace a_preempted_run_is_closed_script 16 ≡ text_of (codes "0 start s"
    ∷ codes "0 dispatch s 8"
    ∷ codes "0 activate s 4"
    ∷ codes "2 start h"
    ∷ codes "2 plan s 2 10"
    ∷ codes "2 dispatch h 9"
    ∷ codes "4 exit h"
    ∷ codes "4 dispatch s 8"
    ∷ codes "4 activate s 2"
    ∷ codes "6 exhaust s"
    ∷ codes "6 plan s 2 14"
    ∷ codes "14 refill s 4 4"
    ∷ codes "14 activate s 4"
    ∷ codes "16 end"
    ∷ codes "thread s ticks 14 high 6 init 4 refilled 4 capacity 2"
    ∷ codes "thread h ticks 2"
    ∷ [])
unfolding digits exec_in
a_preempted_run_is_closed = refl

-- A thread that blocks plans what it consumed, and a refill of a blocked thread activates it only when it wakes.
abbrev blocking_plans_what_was_consumed_script : Script
blocking_plans_what_was_consumed_script = record {
  version = 1;
  quantum = 10;
  decls =
      decl.Named (codes "tm") (kind.Timer 1 5 false)
      ∷ decl.Named (codes "s") (kind.Thread (policy.Sporadic (record { high = 8; low = 2; period = 6; budget = 3; max = 4 })) (Some 2) (Running 1 (Making (call.Nanosleep 3) (Making (call.Nanosleep 4) (Running 1 Nothing)))))
      ∷ decl.Named (codes "u") (kind.Thread (policy.Fifo 9) (Some 0) (Making (call.TimerSettimeAbs 0 (operand.Num 8) 0) (Making (call.Sigwaitinfo 2) Nothing)))
      ∷ [];
}

pub blocking_plans_what_was_consumed : trace blocking_plans_what_was_consumed_script 13 ≡ text_of (codes "0 start u"
    ∷ codes "0 dispatch u 9"
    ∷ codes "1 return u timer_settime 0 0"
    ∷ codes "2 start s"
    ∷ codes "2 activate s 3"
    ∷ codes "2 dispatch s 8"
    ∷ codes "4 plan s 2 8"
    ∷ codes "4 idle"
    ∷ codes "7 return s nanosleep 0 0"
    ∷ codes "7 activate s 1"
    ∷ codes "7 dispatch s 8"
    ∷ codes "8 plan s 1 13"
    ∷ codes "8 refill s 2 2"
    ∷ codes "8 deliver u rt1 TIMER 5"
    ∷ codes "8 return u sigwaitinfo 0 1"
    ∷ codes "8 dispatch u 9"
    ∷ codes "9 exit u"
    ∷ codes "9 idle"
    ∷ codes "12 return s nanosleep 0 0"
    ∷ codes "12 activate s 2"
    ∷ codes "12 dispatch s 8"
    ∷ codes "13 end"
    ∷ codes "thread s ticks 4 high 4 init 3 refilled 2 capacity 1"
    ∷ codes "thread u ticks 3"
    ∷ [])
unfolding digits exec_in
blocking_plans_what_was_consumed = refl

-- A replenishment whose time has passed when it is planned is carried out at that instant.
abbrev overdue_refill_is_made_at_once_script : Script
overdue_refill_is_made_at_once_script = record {
  version = 1;
  quantum = 10;
  decls =
      decl.Named (codes "s") (kind.Thread (policy.Sporadic (record { high = 8; low = 2; period = 10; budget = 3; max = 4 })) (Some 0) (Running 6 Nothing))
      ∷ decl.Named (codes "h") (kind.Thread (policy.Fifo 9) (Some 1) (Running 11 Nothing))
      ∷ decl.Named (codes "p") (kind.Thread (policy.Fifo 8) (Some 14) (Running 1 Nothing))
      ∷ [];
}

pub overdue_refill_is_made_at_once : trace overdue_refill_is_made_at_once_script 18 ≡ text_of (codes "0 start s"
    ∷ codes "0 activate s 3"
    ∷ codes "0 dispatch s 8"
    ∷ codes "1 start h"
    ∷ codes "1 dispatch h 9"
    ∷ codes "13 exit h"
    ∷ codes "13 dispatch s 8"
    ∷ codes "14 start p"
    ∷ codes "15 exhaust s"
    ∷ codes "15 plan s 3 10"
    ∷ codes "15 refill s 3 3"
    ∷ codes "15 activate s 3"
    ∷ codes "15 dispatch p 8"
    ∷ codes "17 exit p"
    ∷ codes "17 dispatch s 8"
    ∷ codes "18 end"
    ∷ codes "thread s ticks 4 high 4 init 3 refilled 3 capacity 2"
    ∷ codes "thread h ticks 12"
    ∷ codes "thread p ticks 2"
    ∷ [])
unfolding digits exec_in
overdue_refill_is_made_at_once = refl

-- A thread whose capacity this tick used up locks a mutex at its low priority.
abbrev ceiling_is_compared_after_the_charge_script : Script
ceiling_is_compared_after_the_charge_script = record {
  version = 1;
  quantum = 10;
  decls =
      decl.Named (codes "m") (kind.Mutex (protocol.Protect 5) false)
      ∷ decl.Named (codes "s") (kind.Thread (policy.Sporadic (record { high = 8; low = 2; period = 10; budget = 1; max = 4 })) (Some 0) (Making (call.Lock 0) Nothing))
      ∷ [];
}

pub ceiling_is_compared_after_the_charge : trace ceiling_is_compared_after_the_charge_script 3 ≡ text_of (codes "0 start s"
    ∷ codes "0 activate s 1"
    ∷ codes "0 dispatch s 8"
    ∷ codes "1 return s lock 0 0"
    ∷ codes "1 exhaust s"
    ∷ codes "1 plan s 1 10"
    ∷ codes "2 exit s"
    ∷ codes "2 idle"
    ∷ codes "3 end"
    ∷ codes "thread s ticks 2"
    ∷ [])
unfolding digits exec_in
ceiling_is_compared_after_the_charge = refl
