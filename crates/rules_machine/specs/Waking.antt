-- Threads block, wake and start: XSH 2.8.4, and pthread_create.
use Rattle.std.specs.Prelude.{None, Option, Some, [], true, ℕ, ◌∷◌}
use Rattle.words_numbers.specs.declared.res.Res.{Res}
use Rattle.words_numbers.specs.declared.res.Res.TheVariants as res
use Rattle.words_script.specs.declared.call.Call.{Call}
use Rattle.words_script.specs.declared.call.Call.TheVariants as call
use Rattle.words_trace.specs.declared.event.Event.{Event}
use Rattle.words_trace.specs.declared.event.Event.TheVariants as event
use Rattle.rules_machine.specs.declared.frame.BodyOf.{BodyOf}
use Rattle.rules_machine.specs.declared.frame.BodyOf.TheVariants as body_of
use Rattle.rules_machine.specs.declared.frame.FrameKind.{FrameKind}
use Rattle.rules_machine.specs.declared.frame.FrameKind.TheVariants as frame
use Rattle.rules_machine.specs.State.{Frame, Machine, Thread, Wait, Waiting, blocked, runnable}
use Rattle.rules_machine.specs.Threads.{thread_at, top_result, top_value, waiting_of}
use Rattle.rules_machine.specs.Bodies.{Bodies}
use Rattle.rules_machine.specs.Turns.{Caller, Turn, answered, changes, moves, takes_serial, tells, ◌▷◌}
use Rattle.rules_machine.specs.CallNames.{name_of}
use Rattle.rules_machine.specs.Servers.{activates, activates_if_high, server_of}

-- ---- blocking

abbrev pub put_to_wait : {P : Type 0} → Waiting → Thread P → Thread P
put_to_wait w th = record th { status = blocked w }

-- the caller blocks; its wait takes the next serial
abbrev pub blocks : {P : Type 0} → Caller → Wait → Option ℕ → Turn P → Turn P
blocks by wait due s =
    s ▷ changes by.thread (put_to_wait (record { wait = wait; serial = s.machine.next_serial; due = due; call = by.call })) ▷ takes_serial

-- a wait with no order among its waiters, for a time or an end, takes no serial
abbrev pub blocks_unordered : {P : Type 0} → Caller → Wait → Option ℕ → Turn P → Turn P
blocks_unordered by wait due s = changes by.thread (put_to_wait (record { wait = wait; serial = 0; due = due; call = by.call })) s

-- ---- waking

-- The thread is runnable again, with its answer and a new round robin interval (the interval is this project's own).
abbrev pub woken : {P : Type 0} → Res → ℕ → Thread P → Thread P
woken result value th = answered result value (record th { status = runnable; slice = 0 })

abbrev pub wakes_telling : {P : Type 0} → Event → ℕ → Res → ℕ → Turn P → Turn P
wakes_telling e t result value s = s ▷ changes t (woken result value) ▷ moves t ▷ tells e ▷ activates_if_high t

-- the call in which a thread is blocked
abbrev pub call_in : Option Waiting → Call
call_in None = call.Yield
call_in (Some w) = w.call

-- a blocked thread wakes, and its call returns
abbrev pub wakes : {P : Type 0} → ℕ → Res → ℕ → Turn P → Turn P
wakes t result value s = wakes_telling (event.Return t (name_of (call_in (waiting_of s.machine t))) result value) t result value s

-- the value of a cancelled thread, as PTHREAD_CANCELED
abbrev pub cancelled_value : ℕ
cancelled_value = 3_000_000_000_000_000_000

abbrev pub ending_with : {P : Type 0} → ℕ → Thread P → Thread P
ending_with value th = record th { is_ending = true; exit_value = value }

-- the answer of its last call
abbrev pub last_result : {P : Type 0} → ℕ → Machine P → Res
last_result t m = top_result (thread_at m t).frames

abbrev pub last_value : {P : Type 0} → ℕ → Machine P → ℕ
last_value t m = top_value (thread_at m t).frames

-- XSH 2.9.5: a request acts in a thread that waits; it wakes, and since its call does not return, the answer of its last call stays
abbrev pub wakes_cancelled : {P : Type 0} → ℕ → Turn P → Turn P
wakes_cancelled t s = s ▷ wakes_telling (event.Cancel t) t (last_result t s.machine) (last_value t s.machine) ▷ changes t (ending_with cancelled_value)

-- ---- frames and starting

abbrev pub on_top : {P : Type 0} → Frame P → Thread P → Thread P
on_top f th = record th { frames = f ∷ th.frames }

module _ {P : Type 0} (bodies : Bodies P) where
  -- a frame at the start of its body
  abbrev pub new_frame : FrameKind → BodyOf → ℕ → Frame P
  new_frame kind body value =
      record { kind = kind; body = body; place = bodies.start body; register = value; result = res.Zero; value = value; left = 0 }

  abbrev pub started : ℕ → ℕ → ℕ → Thread P → Thread P
  started t mask now th = record th {
    status = runnable;
    slice = 0;
    mask = mask;
    frames = new_frame frame.Main (body_of.Thread t) 0 ∷ [];
    server = server_of th.policy now;
  }

  -- a dormant thread starts
  abbrev pub starts : ℕ → ℕ → Turn P → Turn P
  starts t mask s = s ▷ changes t (started t mask s.machine.now) ▷ moves t ▷ tells (event.Start t) ▷ activates t
