-- The delivery of pending signals: the sweep. XSH 2.4.1 and 2.4.3. This project's own are the order of the threads, and that no
-- handler runs in a thread that waits for a mutex, a condition or the end of a thread.
use Rattle.std.specs.Prelude.{Bool, List, None, Option, Some, [], false, not, true, ℕ, ◌-◌, ◌&&◌, ◌||◌, ◌∷◌, if◌then◌else◌}
use Rattle.std.specs.Option.{option_map_or}
use Rattle.words_numbers.specs.Signals.{has_signal}
use Rattle.words_numbers.specs.declared.res.Res.TheVariants as res
use Rattle.words_script.specs.declared.call.Call.{Call}
use Rattle.words_script.specs.declared.call.Call.TheVariants as call
use Rattle.words_trace.specs.declared.event.Event.TheVariants as event
use Rattle.rules_bodies.specs.Next.{capped}
use Rattle.rules_machine.specs.declared.frame.BodyOf.TheVariants as body_of
use Rattle.rules_machine.specs.declared.frame.FrameKind.TheVariants as frame
use Rattle.rules_machine.specs.declared.signal.SigAction.{SigAction}
use Rattle.rules_machine.specs.declared.signal.SigAction.TheVariants as action
use Rattle.rules_machine.specs.Bodies.{Bodies}
use Rattle.rules_machine.specs.State.{Machine, SignalRecord, Thread, Wait, Waiting, for_condition, for_end, for_message, for_mutex, for_mutex_again, for_room, for_semaphore, for_signal, for_time}
use Rattle.rules_machine.specs.Threads.{action_of, catches_signal, is_live, thread_at, thread_numbers, waiting_of}
use Rattle.rules_machine.specs.Turns.{Turn, becomes, changes, changes_pending, settles_since, tells, ◌▷◌}
use Rattle.rules_machine.specs.Waking.{new_frame, on_top, wakes}
use Rattle.rules_machine.specs.Signals.{delivers, may_go_to, is_kill, selected, without_record}

-- ---- which record a thread takes

-- while it waits so, a thread runs no handler
abbrev pub defers_handlers : Wait → Bool
defers_handlers (for_mutex k) = true
defers_handlers (for_mutex_again k how) = true
defers_handlers (for_condition c k) = true
defers_handlers (for_end u) = true
defers_handlers (for_semaphore k) = false
defers_handlers for_time = false
defers_handlers (for_room q message) = false
defers_handlers (for_message q) = false
defers_handlers (for_signal set) = false

abbrev pub may_run_handler : {P : Type 0} → Machine P → ℕ → Bool
may_run_handler m t = not (option_map_or (λ (w : Waiting). defers_handlers w.wait) (waiting_of m t) false)

-- a record that may go to the thread, that its mask lets through, and that ends the process or finds the thread ready for a handler
abbrev pub can_take : {P : Type 0} → Machine P → ℕ → SignalRecord → Bool
can_take m t r = may_go_to t r.target && not (has_signal (thread_at m t).mask r.signal) && (is_kill (action_of m r.signal) || may_run_handler m t)

-- in a signal-catching function all signals are masked, as by a full sa_mask (this project's own)
abbrev pub may_be_interrupted : {P : Type 0} → Thread P → Bool
may_be_interrupted th = is_live th.status && not (catches_signal th)

abbrev pub taken_by_sweep : {P : Type 0} → Machine P → ℕ → Option SignalRecord
taken_by_sweep m t = if may_be_interrupted (thread_at m t) then selected m (can_take m t) else None

-- ---- what it does

-- nanosleep: the ticks that were left when it was interrupted
abbrev pub ticks_left : Call → Option ℕ → ℕ → ℕ
ticks_left (call.Nanosleep n) (Some due) now = due - now
ticks_left call due now = 0

-- EINTR: a blocked thread wakes
abbrev pub interrupts : {P : Type 0} → Option Waiting → ℕ → Turn P → Turn P
interrupts None t s = s
interrupts (Some w) t s = wakes t res.Intr (ticks_left w.call w.due s.machine.now) s

-- the default action: the process ends at this instant
abbrev pub kills : {P : Type 0} → ℕ → Turn P → Turn P
kills signal s = s ▷ tells (event.Killed signal) ▷ becomes (λ m. record m { killed = Some signal })

module _ {P : Type 0} (bodies : Bodies P) where
  -- the handler begins in a frame of its own, with the signal's value
  abbrev pub catches : ℕ → ℕ → SignalRecord → Turn P → Turn P
  catches h t r s =
      s ▷ changes_pending (without_record r) ▷ interrupts (waiting_of s.machine t) t ▷ delivers t r
      ▷ changes t (on_top (new_frame bodies frame.Signal (body_of.Handler h) (capped r.value)))

  abbrev pub acts : SigAction → ℕ → SignalRecord → Turn P → Turn P
  acts action.Kill t r s = kills r.signal s
  acts action.Ignore t r s = s
  acts (action.Handler h) t r s = catches h t r s

  abbrev pub takes_record : Option SignalRecord → ℕ → Turn P → Turn P
  takes_record None t s = s
  takes_record (Some r) t s = acts (action_of s.machine r.signal) t r s

  -- one thread is visited, unless the process has ended
  abbrev pub sweeps_thread : Option ℕ → ℕ → Turn P → Turn P
  sweeps_thread (Some signal) t s = s
  sweeps_thread None t s = takes_record (taken_by_sweep s.machine t) t s

  abbrev pub sweeps_all : List ℕ → Turn P → Turn P
  sweeps_all [] s = s
  sweeps_all (t ∷ ts) s = sweeps_all ts (sweeps_thread s.machine.killed t s)

  -- the threads by number, and then the moves of those that woke
  abbrev pub sweeps : Turn P → Turn P
  sweeps s = s ▷ sweeps_all (thread_numbers s.machine) ▷ settles_since s.machine
