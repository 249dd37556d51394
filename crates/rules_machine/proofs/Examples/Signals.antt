-- Worked examples. Signals and timers.
use Rattle.std.specs.Prelude.{[], ◌∷◌, ◌≡◌, Some, codes, refl, false}
use Rattle.std.specs.Fmt.{digits}
use Rattle.words_script.specs.declared.call.Call.TheVariants as call
use Rattle.words_script.specs.declared.policy.Policy.TheVariants as policy
use Rattle.words_script.specs.declared.decl.Decl.TheVariants as decl
use Rattle.words_script.specs.declared.decl.Kind.TheVariants as kind
use Rattle.words_script.specs.Block.{Nothing, Running, Making}
use Rattle.words_script.specs.declared.decl.Script.{Script}
use Rattle.rules_machine.specs.Priorities.{exec_in}
use Rattle.rules_machine.specs.Machine.{trace}
use Rattle.rules_machine.proofs.Examples.Trace.{text_of}

-- A handler interrupts a sleep, which returns the ticks that were left.
abbrev sleep_is_interrupted_with_ticks_left_script : Script
sleep_is_interrupted_with_ticks_left_script = record {
  version = 1;
  quantum = 10;
  decls =
      decl.Action 1 (Some 0)
      ∷ decl.Named (codes "g") (kind.Handler Nothing)
      ∷ decl.Named (codes "a") (kind.Thread (policy.Fifo 5) (Some 0) (Making (call.Nanosleep 10) Nothing))
      ∷ decl.Named (codes "b") (kind.Thread (policy.Fifo 4) (Some 0) (Making (call.Tkill 0 1) Nothing))
      ∷ [];
}

pub sleep_is_interrupted_with_ticks_left : trace sleep_is_interrupted_with_ticks_left_script 5 ≡ text_of (codes "0 start a"
    ∷ codes "0 start b"
    ∷ codes "0 dispatch a 5"
    ∷ codes "1 dispatch b 4"
    ∷ codes "2 return b tkill 0 0"
    ∷ codes "2 return a nanosleep EINTR 9"
    ∷ codes "2 deliver a rt1 USER 0"
    ∷ codes "2 dispatch a 5"
    ∷ codes "4 exit a"
    ∷ codes "4 dispatch b 4"
    ∷ codes "5 exit b"
    ∷ codes "5 end"
    ∷ codes "thread a ticks 3"
    ∷ codes "thread b ticks 2"
    ∷ [])
unfolding digits exec_in
sleep_is_interrupted_with_ticks_left = refl

-- The default action ends the process at the instant of its delivery.
abbrev default_action_ends_the_process_script : Script
default_action_ends_the_process_script = record {
  version = 1;
  quantum = 10;
  decls =
      decl.Named (codes "a") (kind.Thread (policy.Fifo 5) (Some 0) (Making (call.Kill 3) Nothing))
      ∷ [];
}

pub default_action_ends_the_process : trace default_action_ends_the_process_script 9 ≡ text_of (codes "0 start a"
    ∷ codes "0 dispatch a 5"
    ∷ codes "1 return a kill 0 0"
    ∷ codes "1 killed rt3"
    ∷ codes "1 end"
    ∷ codes "thread a ticks 1"
    ∷ [])
unfolding digits exec_in
default_action_ends_the_process = refl

-- Expiries of a timer whose signal is pending are overruns.
abbrev expiries_while_pending_are_overruns_script : Script
expiries_while_pending_are_overruns_script = record {
  version = 1;
  quantum = 10;
  decls =
      decl.Named (codes "t") (kind.Timer 2 9 false)
      ∷ decl.Named (codes "a") (kind.Thread (policy.Fifo 5) (Some 0) (Making (call.SigmaskBlock 4) (Making (call.TimerSettimeRel 0 1 1) (Running 5 (Making (call.Sigwaitinfo 4) (Making (call.TimerGetoverrun 0) Nothing))))))
      ∷ [];
}

pub expiries_while_pending_are_overruns : trace expiries_while_pending_are_overruns_script 10 ≡ text_of (codes "0 start a"
    ∷ codes "0 dispatch a 5"
    ∷ codes "1 return a sigmask 0 0"
    ∷ codes "2 return a timer_settime 0 0"
    ∷ codes "8 deliver a rt2 TIMER 9"
    ∷ codes "8 return a sigwaitinfo 0 2"
    ∷ codes "9 return a timer_getoverrun 0 4"
    ∷ codes "10 exit a"
    ∷ codes "10 end"
    ∷ codes "thread a ticks 10"
    ∷ [])
unfolding digits exec_in
expiries_while_pending_are_overruns = refl
