-- Creation, joining and the end of threads: pthread_create, pthread_join, pthread_exit. A mutex stays owned when its owner ends
-- (pthread_exit). This project's own are the ESRCH of a join of a thread that never started, its EINVAL, and that the signals directed
-- to a thread are dropped as it ends.
use Rattle.std.specs.Prelude.{Bool, List, None, [], drop, false, filter, not, true, ℕ, ◌==◌, if◌then◌else◌}
use Rattle.words_numbers.specs.Signals.{every_signal}
use Rattle.words_numbers.specs.declared.res.Res.TheVariants as res
use Rattle.words_trace.specs.declared.event.Event.TheVariants as event
use Rattle.rules_machine.specs.declared.frame.FrameKind.{FrameKind}
use Rattle.rules_machine.specs.declared.frame.FrameKind.TheVariants as frame
use Rattle.rules_machine.specs.Lists.{is}
use Rattle.rules_machine.specs.Bodies.{Bodies}
use Rattle.rules_machine.specs.State.{Joiner, SignalRecord, Thread, ended, for_end, has_joined, nobody, waits_to_join}
use Rattle.rules_machine.specs.Threads.{catches_signal, is_dormant, lives, thread_at, top_kind}
use Rattle.rules_machine.specs.Turns.{Caller, Turn, changes, changes_pending, returns, tells, ◌▷◌}
use Rattle.rules_machine.specs.Waking.{blocks_unordered, ending_with, starts, wakes}

-- ---- creation

-- The created thread inherits the signal mask of its creator, which in a signal-catching function blocks all.
abbrev pub inherited_mask : {P : Type 0} → Thread P → ℕ
inherited_mask th = if catches_signal th then every_signal else th.mask

-- pthread_create, of a thread that the script declares: EAGAIN where it has started already (this project's own)
abbrev pub creates : {P : Type 0} → Bodies P → Caller → ℕ → Turn P → Turn P
creates bodies by u s =
    if is_dormant (thread_at s.machine u).status then (s ▷ returns by res.Zero 0 ▷ starts bodies u (inherited_mask (thread_at s.machine by.thread)))
    else returns by res.Again 0 s

-- ---- joining

abbrev pub with_joiner : {P : Type 0} → Joiner → Thread P → Thread P
with_joiner joiner th = record th { joiner = joiner }

abbrev pub is_nobody : Joiner → Bool
is_nobody nobody = true
is_nobody (waits_to_join t) = false
is_nobody has_joined = false

-- pthread_join
abbrev pub joins : {P : Type 0} → Caller → ℕ → Turn P → Turn P
joins by u s =
    if u == by.thread then returns by res.Deadlk 0 s
    else if is_dormant (thread_at s.machine u).status then returns by res.Srch 0 s
    else if not (is_nobody (thread_at s.machine u).joiner) then returns by res.Inval 0 s
    else if lives s.machine u then (s ▷ changes u (with_joiner (waits_to_join by.thread)) ▷ blocks_unordered by (for_end u) None)
    else (s ▷ changes u (with_joiner has_joined) ▷ returns by res.Zero (thread_at s.machine u).exit_value)

-- ---- ending

-- pthread_exit: the thread is ending, and its cleanup handlers come first
abbrev pub exits : {P : Type 0} → Caller → ℕ → Turn P → Turn P
exits by value s = changes by.thread (ending_with value) s

abbrev pub wakes_joiner : {P : Type 0} → Joiner → ℕ → Turn P → Turn P
wakes_joiner nobody t s = s
wakes_joiner has_joined t s = s
wakes_joiner (waits_to_join u) t s = s ▷ changes t (with_joiner has_joined) ▷ wakes u res.Zero (thread_at s.machine t).exit_value

abbrev pub without_life : {P : Type 0} → Thread P → Thread P
without_life th = record th { status = ended; frames = []; server = None }

-- the signals directed to a thread end with it (this project's own)
abbrev pub without_target : ℕ → List SignalRecord → List SignalRecord
without_target t pending = filter (λ (r : SignalRecord). not (is r.target t)) pending

abbrev pub ends : {P : Type 0} → ℕ → Turn P → Turn P
ends t s = s ▷ changes t without_life ▷ tells (event.Exit t) ▷ changes_pending (without_target t) ▷ wakes_joiner (thread_at s.machine t).joiner t

abbrev pub without_top : {P : Type 0} → Thread P → Thread P
without_top th = record th { frames = drop 1 th.frames }

-- a body ends: a handler returns to what it interrupted, and the end of the main body is that of the thread
abbrev pub ends_frame : {P : Type 0} → FrameKind → ℕ → Turn P → Turn P
ends_frame frame.Main t s = ends t s
ends_frame frame.Cleanup t s = changes t without_top s
ends_frame frame.Signal t s = changes t without_top s

abbrev pub finishes : {P : Type 0} → ℕ → Turn P → Turn P
finishes t s = ends_frame (top_kind (thread_at s.machine t).frames) t s
