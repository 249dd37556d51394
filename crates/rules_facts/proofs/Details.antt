-- Worked examples of `detail`, by computing. The scripts and their outputs are those of tests/worked.
use Rattle.std.specs.Prelude.{ℕ, List, Some, [], ◌∷◌, ◌++◌, ◌≡◌, false, codes, refl}
use Rattle.std.specs.Fmt.{digits}
use Rattle.words_script.specs.declared.call.Call.TheVariants as call
use Rattle.words_script.specs.declared.call.Moment.TheVariants as moment
use Rattle.words_script.specs.declared.call.Operand.TheVariants as operand
use Rattle.words_script.specs.declared.policy.Policy.TheVariants as policy
use Rattle.words_script.specs.declared.policy.Protocol.TheVariants as protocol
use Rattle.words_script.specs.declared.decl.Decl.TheVariants as decl
use Rattle.words_script.specs.declared.decl.Kind.TheVariants as kind
use Rattle.words_script.specs.Block.{Nothing, Running, Making}
use Rattle.words_script.specs.declared.decl.Script.{Script}
use Rattle.rules_machine.specs.Priorities.{exec_in}
use Rattle.rules_facts.specs.Detail.{detail}

-- a text from its lines
abbrev text_of : List (List ℕ) → List ℕ
text_of [] = []
text_of (line ∷ lines) = line ++ 10 ∷ text_of lines

-- Without a tick no fact is told.
abbrev no_tick_script : Script
no_tick_script = record {
  version = 1;
  quantum = 10;
  decls =
      decl.Named (codes "a") (kind.Thread (policy.Fifo 5) (Some 0) (Running 3 Nothing))
      ∷ [];
}

no_tick : detail no_tick_script 0 ≡ text_of (
    codes "0 end"
    ∷ codes "thread a ticks 0"
    ∷ [])
unfolding digits exec_in
no_tick = refl

-- No fact stands behind the instant at which the process ends.
abbrev up_to_a_kill_script : Script
up_to_a_kill_script = record {
  version = 1;
  quantum = 10;
  decls =
      decl.Named (codes "k") (kind.Timer 3 5 false)
      ∷ decl.Named (codes "a") (kind.Thread (policy.Fifo 5) (Some 0) (Making (call.TimerSettimeRel 0 2 0) (Making (call.Nanosleep 9) Nothing)))
      ∷ decl.Named (codes "b") (kind.Thread (policy.Fifo 4) (Some 1) (Running 9 Nothing))
      ∷ decl.Named (codes "c") (kind.Thread (policy.Fifo 3) (Some 20) Nothing)
      ∷ [];
}

up_to_a_kill : detail up_to_a_kill_script 9 ≡ text_of (
    codes "0 start a"
    ∷ codes "0 dispatch a 5"
    ∷ codes "0 list 5 a"
    ∷ codes "0 thread a ready 5 5"
    ∷ codes "1 return a timer_settime 0 0"
    ∷ codes "1 start b"
    ∷ codes "1 list 4 b"
    ∷ codes "1 thread b ready 4 4"
    ∷ codes "1 timer k 3 0"
    ∷ codes "2 dispatch b 4"
    ∷ codes "2 list 5"
    ∷ codes "2 thread a blocked 5 5 nanosleep until 11"
    ∷ codes "3 killed rt3"
    ∷ codes "3 end"
    ∷ codes "thread a ticks 2"
    ∷ codes "thread b ticks 1"
    ∷ codes "thread c ticks 0"
    ∷ [])
unfolding digits exec_in
up_to_a_kill = refl

-- A waiter lifts the owner, and the owner that waits itself.
abbrev inherit_chain_script : Script
inherit_chain_script = record {
  version = 1;
  quantum = 10;
  decls =
      decl.Named (codes "m1") (kind.Mutex protocol.Inherit false)
      ∷ decl.Named (codes "m2") (kind.Mutex protocol.Inherit false)
      ∷ decl.Named (codes "a") (kind.Thread (policy.Fifo 1) (Some 0) (Making (call.Lock 0) (Running 4 (Making (call.Unlock 0) Nothing))))
      ∷ decl.Named (codes "b") (kind.Thread (policy.Fifo 3) (Some 1) (Making (call.Lock 1) (Making (call.Lock 0) (Making (call.Unlock 0) (Making (call.Unlock 1) Nothing)))))
      ∷ decl.Named (codes "c") (kind.Thread (policy.Fifo 6) (Some 3) (Making (call.Lock 1) Nothing))
      ∷ [];
}

inherit_chain : detail inherit_chain_script 14 ≡ text_of (
    codes "0 start a"
    ∷ codes "0 dispatch a 1"
    ∷ codes "0 list 1 a"
    ∷ codes "0 thread a ready 1 1"
    ∷ codes "1 return a lock 0 0"
    ∷ codes "1 start b"
    ∷ codes "1 dispatch b 3"
    ∷ codes "1 list 3 b"
    ∷ codes "1 thread b ready 3 3"
    ∷ codes "1 mutex m1 a 1"
    ∷ codes "2 return b lock 0 0"
    ∷ codes "2 mutex m2 b 1"
    ∷ codes "3 start c"
    ∷ codes "3 dispatch c 6"
    ∷ codes "3 list 6 c"
    ∷ codes "3 list 3 a"
    ∷ codes "3 list 1"
    ∷ codes "3 thread a ready 1 3"
    ∷ codes "3 thread b blocked 3 3 lock m1"
    ∷ codes "3 thread c ready 6 6"
    ∷ codes "3 waiters m1 b"
    ∷ codes "4 dispatch a 6"
    ∷ codes "4 list 6 a"
    ∷ codes "4 list 3"
    ∷ codes "4 thread a ready 1 6"
    ∷ codes "4 thread b blocked 3 6 lock m1"
    ∷ codes "4 thread c blocked 6 6 lock m2"
    ∷ codes "4 waiters m2 c"
    ∷ codes "9 return a unlock 0 0"
    ∷ codes "9 return b lock 0 0"
    ∷ codes "9 dispatch b 6"
    ∷ codes "9 list 6 b"
    ∷ codes "9 list 1 a"
    ∷ codes "9 thread a ready 1 1"
    ∷ codes "9 thread b ready 3 6"
    ∷ codes "9 mutex m1 b 1"
    ∷ codes "9 waiters m1"
    ∷ codes "10 return b unlock 0 0"
    ∷ codes "10 mutex m1"
    ∷ codes "11 return b unlock 0 0"
    ∷ codes "11 return c lock 0 0"
    ∷ codes "11 dispatch c 6"
    ∷ codes "11 list 6 c"
    ∷ codes "11 list 3 b"
    ∷ codes "11 thread b ready 3 3"
    ∷ codes "11 thread c ready 6 6"
    ∷ codes "11 mutex m2 c 1"
    ∷ codes "11 waiters m2"
    ∷ codes "12 exit c"
    ∷ codes "12 dispatch b 3"
    ∷ codes "12 list 6"
    ∷ codes "12 thread c ended"
    ∷ codes "13 exit b"
    ∷ codes "13 dispatch a 1"
    ∷ codes "13 list 3"
    ∷ codes "13 thread b ended"
    ∷ codes "14 exit a"
    ∷ codes "14 end"
    ∷ codes "thread a ticks 7"
    ∷ codes "thread b ticks 5"
    ∷ codes "thread c ticks 2"
    ∷ [])
unfolding digits exec_in
inherit_chain = refl

-- A run that a preemption ends is planned behind the facts of its instant.
abbrev strict_server_script : Script
strict_server_script = record {
  version = 2;
  quantum = 10;
  decls =
      decl.Named (codes "s") (kind.Thread (policy.Strict (record { high = 8; low = 2; period = 10; budget = 4; max = 1 })) (Some 0) (Running 20 Nothing))
      ∷ decl.Named (codes "h") (kind.Thread (policy.Fifo 9) (Some 2) (Running 1 Nothing))
      ∷ [];
}

strict_server : detail strict_server_script 16 ≡ text_of (
    codes "0 start s"
    ∷ codes "0 dispatch s 8"
    ∷ codes "0 activate s 4"
    ∷ codes "0 list 8 s"
    ∷ codes "0 thread s ready 8 8"
    ∷ codes "2 start h"
    ∷ codes "2 plan s 2 10"
    ∷ codes "2 dispatch h 9"
    ∷ codes "2 list 9 h"
    ∷ codes "2 thread h ready 9 9"
    ∷ codes "3 pending s 2 10"
    ∷ codes "4 exit h"
    ∷ codes "4 dispatch s 8"
    ∷ codes "4 activate s 2"
    ∷ codes "4 list 9"
    ∷ codes "4 thread h ended"
    ∷ codes "6 exhaust s"
    ∷ codes "6 plan s 2 14"
    ∷ codes "6 list 8"
    ∷ codes "6 list 2 s"
    ∷ codes "6 thread s ready 2 2"
    ∷ codes "6 pending s 4 14"
    ∷ codes "14 refill s 4 4"
    ∷ codes "14 activate s 4"
    ∷ codes "14 list 8 s"
    ∷ codes "14 list 2"
    ∷ codes "14 thread s ready 8 8"
    ∷ codes "14 pending s"
    ∷ codes "16 end"
    ∷ codes "thread s ticks 14 high 6 init 4 refilled 4 capacity 2"
    ∷ codes "thread h ticks 2"
    ∷ [])
unfolding digits exec_in
strict_server = refl

-- Waiters of a condition, and then of its mutex.
abbrev condition_and_contenders_script : Script
condition_and_contenders_script = record {
  version = 1;
  quantum = 10;
  decls =
      decl.Named (codes "m") (kind.Mutex protocol.Plain false)
      ∷ decl.Named (codes "c") (kind.Cond)
      ∷ decl.Named (codes "x") (kind.Thread (policy.Fifo 5) (Some 0) (Making (call.Lock 0) (Making (call.Timedwait 0 0 (moment.Monotonic (operand.Num 20))) (Making (call.Unlock 0) Nothing))))
      ∷ decl.Named (codes "y") (kind.Thread (policy.Fifo 7) (Some 1) (Making (call.Lock 0) (Making (call.Wait 0 0) (Making (call.Unlock 0) Nothing))))
      ∷ decl.Named (codes "z") (kind.Thread (policy.Fifo 3) (Some 0) (Making (call.Lock 0) (Making (call.Broadcast 0) (Running 2 (Making (call.Unlock 0) Nothing)))))
      ∷ [];
}

condition_and_contenders : detail condition_and_contenders_script 13 ≡ text_of (
    codes "0 start x"
    ∷ codes "0 start z"
    ∷ codes "0 dispatch x 5"
    ∷ codes "0 list 5 x"
    ∷ codes "0 list 3 z"
    ∷ codes "0 thread x ready 5 5"
    ∷ codes "0 thread z ready 3 3"
    ∷ codes "1 return x lock 0 0"
    ∷ codes "1 start y"
    ∷ codes "1 dispatch y 7"
    ∷ codes "1 list 7 y"
    ∷ codes "1 thread y ready 7 7"
    ∷ codes "1 mutex m x 1"
    ∷ codes "2 dispatch x 5"
    ∷ codes "2 list 7"
    ∷ codes "2 thread y blocked 7 7 lock m"
    ∷ codes "2 waiters m y"
    ∷ codes "3 return y lock 0 0"
    ∷ codes "3 dispatch y 7"
    ∷ codes "3 list 7 y"
    ∷ codes "3 list 5"
    ∷ codes "3 thread x blocked 5 5 timedwait c until 20"
    ∷ codes "3 thread y ready 7 7"
    ∷ codes "3 mutex m y 1"
    ∷ codes "3 waiters m"
    ∷ codes "3 waiters c x"
    ∷ codes "4 dispatch z 3"
    ∷ codes "4 list 7"
    ∷ codes "4 thread y blocked 7 7 wait c"
    ∷ codes "4 mutex m"
    ∷ codes "4 waiters c y x"
    ∷ codes "5 return z lock 0 0"
    ∷ codes "5 mutex m z 1"
    ∷ codes "6 return z broadcast 0 0"
    ∷ codes "6 thread x blocked 5 5 timedwait m"
    ∷ codes "6 thread y blocked 7 7 wait m"
    ∷ codes "6 waiters m y x"
    ∷ codes "6 waiters c"
    ∷ codes "9 return z unlock 0 0"
    ∷ codes "9 return y wait 0 0"
    ∷ codes "9 dispatch y 7"
    ∷ codes "9 list 7 y"
    ∷ codes "9 thread y ready 7 7"
    ∷ codes "9 mutex m y 1"
    ∷ codes "9 waiters m x"
    ∷ codes "10 return y unlock 0 0"
    ∷ codes "10 return x timedwait 0 0"
    ∷ codes "10 list 5 x"
    ∷ codes "10 thread x ready 5 5"
    ∷ codes "10 mutex m x 1"
    ∷ codes "10 waiters m"
    ∷ codes "11 exit y"
    ∷ codes "11 dispatch x 5"
    ∷ codes "11 list 7"
    ∷ codes "11 thread y ended"
    ∷ codes "12 return x unlock 0 0"
    ∷ codes "12 mutex m"
    ∷ codes "13 exit x"
    ∷ codes "13 end"
    ∷ codes "thread x ticks 4"
    ∷ codes "thread y ticks 4"
    ∷ codes "thread z ticks 5"
    ∷ [])
unfolding digits exec_in
condition_and_contenders = refl
