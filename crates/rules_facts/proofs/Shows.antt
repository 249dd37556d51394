-- Worked examples of `show`, by computing. The scripts and their outputs are those of tests/worked.
use Rattle.std.specs.Prelude.{ℕ, List, Some, None, [], ◌∷◌, ◌++◌, ◌≡◌, true, false, codes, refl}
use Rattle.std.specs.Fmt.{digits}
use Rattle.words_script.specs.declared.call.Call.TheVariants as call
use Rattle.words_script.specs.declared.call.Moment.TheVariants as moment
use Rattle.words_script.specs.declared.call.Operand.TheVariants as operand
use Rattle.words_script.specs.declared.policy.Policy.TheVariants as policy
use Rattle.words_script.specs.declared.policy.Protocol.TheVariants as protocol
use Rattle.words_script.specs.declared.decl.Decl.TheVariants as decl
use Rattle.words_script.specs.declared.decl.Kind.TheVariants as kind
use Rattle.words_script.specs.Block.{Nothing, Running, Making, Setting, Guarding}
use Rattle.words_script.specs.declared.decl.Script.{Script}
use Rattle.rules_machine.specs.Priorities.{exec_in}
use Rattle.rules_facts.specs.Shown.{shown}

-- a text from its lines
abbrev text_of : List (List ℕ) → List ℕ
text_of [] = []
text_of (line ∷ lines) = line ++ 10 ∷ text_of lines

-- At instant 0 what starts there is handled and nothing has run; who nobody creates stays dormant.
abbrev at_instant_zero_script : Script
at_instant_zero_script = record {
  version = 1;
  quantum = 10;
  decls =
      decl.Named (codes "m") (kind.Mutex protocol.Inherit false)
      ∷ decl.Named (codes "c") (kind.Cond)
      ∷ decl.Named (codes "s") (kind.Sem 3)
      ∷ decl.Named (codes "e") (kind.Sem 0)
      ∷ decl.Named (codes "q") (kind.Queue 1 8 false)
      ∷ decl.Named (codes "k") (kind.Timer 1 5 false)
      ∷ decl.Named (codes "a") (kind.Thread (policy.Sporadic (record { high = 9; low = 2; period = 10; budget = 4; max = 1 })) (Some 0) (Running 1 Nothing))
      ∷ decl.Named (codes "b") (kind.Thread (policy.Rr 5) (Some 0) (Running 1 Nothing))
      ∷ decl.Named (codes "d") (kind.Thread (policy.Fifo 5) None (Running 1 Nothing))
      ∷ [];
}

at_instant_zero : shown at_instant_zero_script 0 ≡ text_of (
    codes "0 state"
    ∷ codes "list 9 a"
    ∷ codes "list 5 b"
    ∷ codes "thread a ready 9 9"
    ∷ codes "thread b ready 5 5"
    ∷ codes "thread d dormant"
    ∷ codes "sem s 3"
    ∷ codes "sem e 0"
    ∷ codes "now a 0 0 0 0"
    ∷ codes "budget a 4 0 0 0 0"
    ∷ codes "now b 0 0 0 0"
    ∷ codes "slice b 0"
    ∷ [])
unfolding digits exec_in
at_instant_zero = refl

-- Waiters of one priority stand in the order in which they came, and a higher one before them.
abbrev equal_waiters_script : Script
equal_waiters_script = record {
  version = 1;
  quantum = 10;
  decls =
      decl.Named (codes "s") (kind.Sem 0)
      ∷ decl.Named (codes "z") (kind.Thread (policy.Fifo 5) (Some 2) (Making (call.SemWait 0) Nothing))
      ∷ decl.Named (codes "y") (kind.Thread (policy.Fifo 5) (Some 0) (Making (call.SemWait 0) Nothing))
      ∷ decl.Named (codes "x") (kind.Thread (policy.Fifo 5) (Some 1) (Making (call.SemTimedwait 0 (moment.Monotonic (operand.Num 40))) Nothing))
      ∷ decl.Named (codes "w") (kind.Thread (policy.Fifo 6) (Some 3) (Making (call.SemWait 0) Nothing))
      ∷ [];
}

equal_waiters : shown equal_waiters_script 4 ≡ text_of (
    codes "4 state"
    ∷ codes "thread z blocked 5 5 sem_wait s"
    ∷ codes "thread y blocked 5 5 sem_wait s"
    ∷ codes "thread x blocked 5 5 sem_timedwait s until 40"
    ∷ codes "thread w blocked 6 6 sem_wait s"
    ∷ codes "waiters s w y x z"
    ∷ codes "sem s 0"
    ∷ codes "now z 1 0 0 0"
    ∷ codes "now y 1 0 0 0"
    ∷ codes "now x 1 0 0 0"
    ∷ codes "now w 1 0 0 0"
    ∷ [])
unfolding digits exec_in
equal_waiters = refl

-- Messages in the order of receiving, a sender and a receiver that wait, and a registration.
abbrev two_queues_at_one_instant_script : Script
two_queues_at_one_instant_script = record {
  version = 1;
  quantum = 10;
  decls =
      decl.Named (codes "r") (kind.Queue 1 8 false)
      ∷ decl.Named (codes "q") (kind.Queue 2 8 false)
      ∷ decl.Action 1 (Some 0)
      ∷ decl.Named (codes "g") (kind.Handler (Running 1 Nothing))
      ∷ decl.Named (codes "a") (kind.Thread (policy.Fifo 6) (Some 0) (Making (call.MqSend 1 1 0 (operand.Num 11)) (Making (call.MqSend 1 1 3 (operand.Num 12)) (Making (call.MqTimedsend 1 1 1 (operand.Num 13) (moment.Monotonic (operand.Num 30))) Nothing))))
      ∷ decl.Named (codes "b") (kind.Thread (policy.Fifo 5) (Some 0) (Making (call.MqNotify 0 1 (operand.Num 9)) (Making (call.MqReceive 0) Nothing)))
      ∷ decl.Named (codes "c") (kind.Thread (policy.Fifo 4) (Some 0) (Making (call.MqReceive 1) (Making (call.MqSend 0 1 2 (operand.Num 21)) (Making (call.MqSend 0 1 5 (operand.Num 22)) (Running 5 Nothing)))))
      ∷ [];
}

two_queues_at_one_instant : shown two_queues_at_one_instant_script 5 ≡ text_of (
    codes "5 state"
    ∷ codes "list 4 c"
    ∷ codes "thread a blocked 6 6 mq_timedsend q until 30"
    ∷ codes "thread b blocked 5 5 mq_receive r"
    ∷ codes "thread c ready 4 4"
    ∷ codes "messages q 3 12 0 11"
    ∷ codes "receivers r b"
    ∷ codes "senders q a"
    ∷ codes "notify r rt1 9"
    ∷ codes "now a 3 0 0 0"
    ∷ codes "now b 2 0 0 0"
    ∷ codes "now c 0 0 0 0"
    ∷ [])
unfolding digits exec_in
two_queues_at_one_instant = refl

-- The state in which a signal ended the process.
abbrev killed_process_script : Script
killed_process_script = record {
  version = 1;
  quantum = 10;
  decls =
      decl.Named (codes "k") (kind.Timer 3 5 false)
      ∷ decl.Named (codes "a") (kind.Thread (policy.Fifo 5) (Some 0) (Making (call.TimerSettimeRel 0 2 0) (Making (call.Nanosleep 9) Nothing)))
      ∷ decl.Named (codes "b") (kind.Thread (policy.Fifo 4) (Some 1) (Running 9 Nothing))
      ∷ decl.Named (codes "c") (kind.Thread (policy.Fifo 3) (Some 20) Nothing)
      ∷ [];
}

killed_process : shown killed_process_script 9 ≡ text_of (
    codes "3 state"
    ∷ codes "killed rt3"
    ∷ codes "list 4 b"
    ∷ codes "thread a blocked 5 5 nanosleep until 11"
    ∷ codes "thread b ready 4 4"
    ∷ codes "thread c dormant"
    ∷ codes "now a 2 0 0 0"
    ∷ codes "now b 1 0 0 0"
    ∷ codes "left b 8"
    ∷ [])
unfolding digits exec_in
killed_process = refl

-- Timers, masks as sets, and pending signals for the process and for a thread.
abbrev timers_masks_and_signals_script : Script
timers_masks_and_signals_script = record {
  version = 1;
  quantum = 10;
  decls =
      decl.Named (codes "k") (kind.Timer 4 7 false)
      ∷ decl.Named (codes "j") (kind.Timer 5 0 false)
      ∷ decl.Action 2 (Some 0)
      ∷ decl.Action 4 (Some 0)
      ∷ decl.Named (codes "g") (kind.Handler Nothing)
      ∷ decl.Named (codes "a") (kind.Thread (policy.Fifo 5) (Some 0) (Setting 42 (Making (call.SigmaskBlock 20) (Making (call.TimerSettimeRel 0 3 4) (Making (call.TimerSettimeAbs 1 (operand.Num 50) 0) (Making (call.Create 1) (Making (call.Sigqueue 2 (operand.Num 6)) (Making (call.Tkill 1 2) (Running 6 Nothing)))))))))
      ∷ decl.Named (codes "b") (kind.Thread (policy.Fifo 4) None (Running 1 Nothing))
      ∷ decl.Named (codes "c") (kind.Thread (policy.Fifo 6) (Some 1) (Making (call.SigmaskBlock 4294967295) (Making (call.Sigtimedwait 3 20) Nothing)))
      ∷ [];
}

timers_masks_and_signals : shown timers_masks_and_signals_script 11 ≡ text_of (
    codes "11 state"
    ∷ codes "list 5 a"
    ∷ codes "list 4 b"
    ∷ codes "thread a ready 5 5"
    ∷ codes "thread b ready 4 4"
    ∷ codes "thread c blocked 6 6 sigtimedwait rt0,rt1 until 23"
    ∷ codes "mask a rt2,rt4"
    ∷ codes "mask b rt2,rt4"
    ∷ codes "mask c all"
    ∷ codes "timer k 15 4"
    ∷ codes "timer j 50 0"
    ∷ codes "signal rt2 QUEUE 6 * USER 0 b"
    ∷ codes "signal rt4 TIMER 7 *"
    ∷ codes "now a 9 42 0 0"
    ∷ codes "left a 3"
    ∷ codes "now b 0 0 0 0"
    ∷ codes "now c 2 0 0 0"
    ∷ [])
unfolding digits exec_in
timers_masks_and_signals = refl

-- A handler above a cleanup handler, in an ending thread that was cancelled.
abbrev handler_above_a_cleanup_script : Script
handler_above_a_cleanup_script = record {
  version = 1;
  quantum = 10;
  decls =
      decl.Action 1 (Some 0)
      ∷ decl.Named (codes "g") (kind.Handler (Running 1 Nothing))
      ∷ decl.Named (codes "u") (kind.Cleanup (Running 3 Nothing))
      ∷ decl.Named (codes "w") (kind.Cleanup Nothing)
      ∷ decl.Named (codes "a") (kind.Thread (policy.Fifo 5) (Some 0) (Guarding 0 false (Guarding 1 false (Making (call.Setcancel false) (Making (call.Nanosleep 3) (Making (call.Setcancel true) (Making call.Testcancel Nothing)))) Nothing) Nothing))
      ∷ decl.Named (codes "b") (kind.Thread (policy.Fifo 7) (Some 4) (Making (call.Cancel 0) (Making (call.Nanosleep 6) (Making (call.Sigqueue 1 (operand.Num 33)) Nothing))))
      ∷ [];
}

handler_above_a_cleanup : shown handler_above_a_cleanup_script 14 ≡ text_of (
    codes "14 state"
    ∷ codes "list 5 a"
    ∷ codes "thread a ready 5 5"
    ∷ codes "thread b ended"
    ∷ codes "frames a g u"
    ∷ codes "cancelability a requested ending"
    ∷ codes "now a 9 33 0 33"
    ∷ [])
unfolding digits exec_in
handler_above_a_cleanup = refl

-- Two pending replenishments of a server.
abbrev server_script : Script
server_script = record {
  version = 1;
  quantum = 10;
  decls =
      decl.Named (codes "s") (kind.Thread (policy.Sporadic (record { high = 8; low = 2; period = 20; budget = 6; max = 4 })) (Some 0) (Running 2 (Making (call.Nanosleep 1) (Running 1 (Making (call.Nanosleep 2) (Running 5 Nothing))))))
      ∷ decl.Named (codes "h") (kind.Thread (policy.Fifo 5) (Some 0) (Running 30 Nothing))
      ∷ [];
}

server : shown server_script 25 ≡ text_of (
    codes "25 state"
    ∷ codes "list 8 s"
    ∷ codes "list 5 h"
    ∷ codes "thread s ready 8 8"
    ∷ codes "thread h ready 5 5"
    ∷ codes "pending s 1 28 3 40"
    ∷ codes "now s 10 0 0 0"
    ∷ codes "budget s 1 1 24 10 5"
    ∷ codes "now h 15 0 0 0"
    ∷ codes "left h 15"
    ∷ [])
unfolding digits exec_in
server = refl

-- Round robin intervals, a timed wait for a semaphore, and a join.
abbrev slices_a_semaphore_and_a_join_script : Script
slices_a_semaphore_and_a_join_script = record {
  version = 1;
  quantum = 4;
  decls =
      decl.Named (codes "s") (kind.Sem 0)
      ∷ decl.Named (codes "a") (kind.Thread (policy.Rr 5) (Some 0) (Setting 3 (Running 6 Nothing)))
      ∷ decl.Named (codes "b") (kind.Thread (policy.Rr 5) (Some 0) (Making (call.SemTrywait 0) (Running 9 Nothing)))
      ∷ decl.Named (codes "h") (kind.Thread (policy.Fifo 9) (Some 7) (Running 2 (Making (call.SemTimedwait 0 (moment.Monotonic (operand.Num 30))) Nothing)))
      ∷ decl.Named (codes "j") (kind.Thread (policy.Fifo 8) (Some 0) (Making (call.Join 0) Nothing))
      ∷ [];
}

slices_a_semaphore_and_a_join : shown slices_a_semaphore_and_a_join_script 11 ≡ text_of (
    codes "11 state"
    ∷ codes "list 5 b a"
    ∷ codes "thread a ready 5 5"
    ∷ codes "thread b ready 5 5"
    ∷ codes "thread h blocked 9 9 sem_timedwait s until 30"
    ∷ codes "thread j blocked 8 8 join a"
    ∷ codes "waiters s h"
    ∷ codes "sem s 0"
    ∷ codes "now a 4 3 0 0"
    ∷ codes "left a 2"
    ∷ codes "slice a 0"
    ∷ codes "now b 3 0 EAGAIN 0"
    ∷ codes "left b 7"
    ∷ codes "slice b 3"
    ∷ codes "now h 3 0 0 0"
    ∷ codes "now j 1 0 0 0"
    ∷ [])
unfolding digits exec_in
slices_a_semaphore_and_a_join = refl

-- A thread that ended keeps its mutex, and nothing else that is told.
abbrev owner_that_ended_script : Script
owner_that_ended_script = record {
  version = 1;
  quantum = 10;
  decls =
      decl.Named (codes "m") (kind.Mutex protocol.Plain true)
      ∷ decl.Named (codes "a") (kind.Thread (policy.Fifo 5) (Some 0) (Making (call.SigmaskBlock 8) (Making (call.Setcancel false) (Making (call.Lock 0) (Making (call.Lock 0) Nothing)))))
      ∷ decl.Named (codes "b") (kind.Thread (policy.Fifo 4) (Some 0) (Making (call.Lock 0) Nothing))
      ∷ decl.Named (codes "c") (kind.Thread (policy.Fifo 3) (Some 0) (Making (call.Create 0) (Running 9 Nothing)))
      ∷ [];
}

owner_that_ended : shown owner_that_ended_script 9 ≡ text_of (
    codes "9 state"
    ∷ codes "list 3 c"
    ∷ codes "thread a ended"
    ∷ codes "thread b blocked 4 4 lock m"
    ∷ codes "thread c ready 3 3"
    ∷ codes "mutex m a 2"
    ∷ codes "waiters m b"
    ∷ codes "now b 1 0 0 0"
    ∷ codes "now c 3 0 EAGAIN 0"
    ∷ codes "left c 7"
    ∷ [])
unfolding digits exec_in
owner_that_ended = refl
