-- Deferred cancellation: XSH 2.9.5, pthread_cancel, pthread_setcancelstate, pthread_cleanup_push, pthread_cleanup_pop.
use Rattle.std.specs.Prelude.{Bool, List, None, Option, Some, [], drop, false, not, true, ℕ, ◌&&◌, ◌∷◌, if◌then◌else◌}
use Rattle.words_numbers.specs.declared.res.Res.TheVariants as res
use Rattle.words_script.specs.declared.call.Call.{Call}
use Rattle.words_script.specs.declared.call.Call.TheVariants as call
use Rattle.words_trace.specs.declared.event.Event.TheVariants as event
use Rattle.rules_machine.specs.declared.frame.BodyOf.TheVariants as body_of
use Rattle.rules_machine.specs.declared.frame.FrameKind.TheVariants as frame
use Rattle.rules_machine.specs.declared.thread.CondEnd.TheVariants as cond_end
use Rattle.rules_machine.specs.Bodies.{Bodies}
use Rattle.rules_machine.specs.State.{Thread, Wait, Waiting, for_condition, for_end, for_mutex, for_mutex_again, nobody}
use Rattle.rules_machine.specs.Threads.{lives, thread_at, waiting_of}
use Rattle.rules_machine.specs.Turns.{Caller, Turn, changes, returns, tells, ◌▷◌}
use Rattle.rules_machine.specs.Waking.{cancelled_value, ending_with, new_frame, on_top, wakes_cancelled}
use Rattle.rules_machine.specs.Conditions.{contends}
use Rattle.rules_machine.specs.Lives.{with_joiner}

-- XSH 2.9.5.2, of the calls of a script
abbrev pub is_cancellation_point : Call → Bool
is_cancellation_point (call.Join u) = true
is_cancellation_point call.Testcancel = true
is_cancellation_point (call.Wait c k) = true
is_cancellation_point (call.Timedwait c k at) = true
is_cancellation_point (call.SemWait k) = true
is_cancellation_point (call.SemTimedwait k at) = true
is_cancellation_point (call.Nanosleep n) = true
is_cancellation_point (call.ClockNanosleep at) = true
is_cancellation_point (call.Sigwaitinfo set) = true
is_cancellation_point (call.Sigtimedwait set n) = true
is_cancellation_point (call.MqSend q len p v) = true
is_cancellation_point (call.MqTimedsend q len p v at) = true
is_cancellation_point (call.MqReceive q) = true
is_cancellation_point (call.MqTimedreceive q at) = true
is_cancellation_point other = false

-- whether a request acts as soon as it may; a thread that is ending is not cancelled again
abbrev pub request_acts : {P : Type 0} → Thread P → Bool
request_acts th = th.is_requested && th.is_enabled && not th.is_ending

-- a request acts in place of the call
abbrev pub is_cancelled : {P : Type 0} → ℕ → Turn P → Turn P
is_cancelled t s = s ▷ tells (event.Cancel t) ▷ changes t (ending_with cancelled_value)

-- ---- a request for a blocked thread

-- A thread that waits for a mutex is in no cancellation point. One in a condition wait owns its mutex again before the request
-- acts. A joiner leaves its thread to be joined by another.
abbrev pub leaves : {P : Type 0} → Wait → ℕ → Turn P → Turn P
leaves (for_mutex k) u s = s
leaves (for_mutex_again k how) u s = s
leaves (for_condition c k) u s = contends u cond_end.Cancelled s
leaves (for_end t) u s = s ▷ changes t (with_joiner nobody) ▷ wakes_cancelled u
leaves wait u s = wakes_cancelled u s

abbrev pub leaves_wait : {P : Type 0} → Option Waiting → ℕ → Turn P → Turn P
leaves_wait None u s = s
leaves_wait (Some w) u s = leaves w.wait u s

abbrev pub acts_if_blocked : {P : Type 0} → ℕ → Turn P → Turn P
acts_if_blocked u s = if request_acts (thread_at s.machine u) then leaves_wait (waiting_of s.machine u) u s else s

-- ---- calls

abbrev pub requested : {P : Type 0} → Thread P → Thread P
requested th = record th { is_requested = true }

-- an effect on a thread that lives; ESRCH where it does not (this project's own, of each call that asks this)
abbrev pub on_live : {P : Type 0} → Caller → ℕ → (Turn P → Turn P) → Turn P → Turn P
on_live by u effect s = if lives s.machine u then effect s else returns by res.Srch 0 s

-- pthread_cancel
abbrev pub cancels : {P : Type 0} → Caller → ℕ → Turn P → Turn P
cancels by u s = on_live by u (λ s. s ▷ returns by res.Zero 0 ▷ changes u requested ▷ acts_if_blocked u) s

-- pthread_setcancelstate
abbrev pub sets_cancelability : {P : Type 0} → Caller → Bool → Turn P → Turn P
sets_cancelability by on s = s ▷ changes by.thread (λ th. record th { is_enabled = on }) ▷ returns by res.Zero 0

-- pthread_cleanup_push
abbrev pub pushes_cleanup : {P : Type 0} → Caller → ℕ → Turn P → Turn P
pushes_cleanup by u s = s ▷ changes by.thread (λ th. record th { cleanups = u ∷ th.cleanups }) ▷ returns by res.Zero 0

abbrev pub without_cleanup : {P : Type 0} → Thread P → Thread P
without_cleanup th = record th { cleanups = drop 1 th.cleanups }

-- the last cleanup handler runs in a frame of its own
abbrev pub runs_cleanup : {P : Type 0} → Bodies P → List ℕ → Thread P → Thread P
runs_cleanup bodies [] th = th
runs_cleanup bodies (u ∷ us) th = on_top (new_frame bodies frame.Cleanup (body_of.Cleanup u) 0) th

abbrev pub runs_cleanup_if : {P : Type 0} → Bool → Bodies P → List ℕ → Thread P → Thread P
runs_cleanup_if true bodies cleanups th = runs_cleanup bodies cleanups th
runs_cleanup_if false bodies cleanups th = th

-- pthread_cleanup_pop
abbrev pub pops_cleanup : {P : Type 0} → Bodies P → Caller → Bool → Turn P → Turn P
pops_cleanup bodies by runs s =
    s ▷ changes by.thread without_cleanup ▷ returns by res.Zero 0 ▷ changes by.thread (runs_cleanup_if runs bodies (thread_at s.machine by.thread).cleanups)
