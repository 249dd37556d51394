-- A thread that came to run by a join, an end or a request has a direct move.
use Rattle.std.proofs.Common.{◌≡◌, ℕ, List, [], ◌∷◌, Bool, true, false, ap, refl, sym, ◌∙◌}
use Rattle.std.specs.Prelude.{None, Option, Some, ◌==◌, not}
use Rattle.words_numbers.specs.declared.res.Res.TheVariants as res
use Rattle.words_trace.specs.declared.event.Event.TheVariants as event
use Rattle.rules_machine.specs.Bodies.{Bodies}
use Rattle.rules_machine.specs.State.{Joiner, Thread, Wait, Waiting, has_joined, nobody, waits_to_join, for_condition, for_end, for_message, for_mutex, for_mutex_again, for_room, for_semaphore, for_signal, for_time}
use Rattle.rules_machine.specs.declared.thread.CondEnd.TheVariants as cond_end
use Rattle.rules_machine.specs.Threads.{is_dormant, is_runnable, lives, thread_at, waiting_of}
use Rattle.rules_machine.specs.Turns.{Caller, Turn, changes, changes_pending, returns, tells}
use Rattle.rules_machine.specs.Waking.{blocks_unordered, wakes, wakes_cancelled}
use Rattle.rules_machine.specs.declared.frame.FrameKind.{FrameKind}
use Rattle.rules_machine.specs.declared.frame.FrameKind.TheVariants as frame
use Rattle.rules_machine.specs.Cancellation.{acts_if_blocked, cancels, leaves, leaves_wait, pops_cleanup, request_acts, requested, runs_cleanup_if, without_cleanup}
use Rattle.rules_machine.specs.Lives.{ends_frame, is_nobody, joins, wakes_joiner, with_joiner, without_life, without_target, without_top}
use Rattle.calls_items.proofs.Coming.Steps.{wakes_come, fewer_come, changes_fewer, returns_fewer, Comes, if_come, returns_come, sleeps_come, fewer_before, changed_come}
use Rattle.calls_items.proofs.Coming.Waits.{cancelled_come, contends_come}

-- ---- joins, ends and requests

pub joins_come : {P : Type 0} (b : Caller) (u : ℕ) (s : Turn P) → Comes s (joins b u s)
joins_come b u s =
    if_come (u == b.thread) _ _ s (returns_come b res.Deadlk 0 s)
    (if_come (is_dormant (thread_at s.machine u).status) _ _ s (returns_come b res.Srch 0 s)
    (if_come (not (is_nobody (thread_at s.machine u).joiner)) _ _ s (returns_come b res.Inval 0 s)
    (if_come (lives s.machine u) _ _ s
    (let x = changes u (with_joiner (waits_to_join b.thread)) s in
    let y = blocks_unordered b (for_end u) None x in
    fewer_before s x y (changes_fewer u (with_joiner (waits_to_join b.thread)) s (λ h. h)) (sleeps_come b (record { wait = for_end u; serial = 0; due = None; call = b.call }) x))
    (let x = changes u (with_joiner has_joined) s in
    fewer_before s x (returns b res.Zero (thread_at s.machine u).exit_value x) (changes_fewer u (with_joiner has_joined) s (λ h. h)) (returns_come b res.Zero (thread_at s.machine u).exit_value x)))))

leaves_come : {P : Type 0} (x : Wait) (u : ℕ) (s : Turn P) → Comes s (leaves x u s)
leaves_come (for_mutex k) u s = fewer_come s.machine s.machine s.direct (λ v r. r)
leaves_come (for_mutex_again k how) u s = fewer_come s.machine s.machine s.direct (λ v r. r)
leaves_come (for_condition c k) u s = contends_come u cond_end.Cancelled s
leaves_come (for_end t) u s = let x = changes t (with_joiner nobody) s in fewer_before s x (wakes_cancelled u x) (changes_fewer t (with_joiner nobody) s (λ h. h)) (cancelled_come u x)
leaves_come (for_semaphore k) u s = cancelled_come u s
leaves_come for_time u s = cancelled_come u s
leaves_come (for_room q message) u s = cancelled_come u s
leaves_come (for_message q) u s = cancelled_come u s
leaves_come (for_signal signals) u s = cancelled_come u s

leaves_wait_come : {P : Type 0} (o : Option Waiting) (u : ℕ) (s : Turn P) → Comes s (leaves_wait o u s)
leaves_wait_come None u s = fewer_come s.machine s.machine s.direct (λ v r. r)
leaves_wait_come (Some w) u s = leaves_come w.wait u s

acts_come : {P : Type 0} (u : ℕ) (s : Turn P) → Comes s (acts_if_blocked u s)
acts_come u s = if_come (request_acts (thread_at s.machine u)) _ _ s (leaves_wait_come (waiting_of s.machine u) u s) (fewer_come s.machine s.machine s.direct (λ v r. r))

pub cancels_come : {P : Type 0} (b : Caller) (u : ℕ) (s : Turn P) → Comes s (cancels b u s)
cancels_come b u s =
    let r = returns b res.Zero 0 s in
    let x = changes u requested r in
    if_come (lives s.machine u) _ _ s
    (fewer_before s x (acts_if_blocked u x) (λ v k. returns_fewer b res.Zero 0 s v (changes_fewer u requested r (λ h. h) v k)) (acts_come u x))
    (returns_come b res.Srch 0 s)

run_status : {P : Type 0} (runs : Bool) (bodies : Bodies P) (us : List ℕ) (th : Thread P) → (runs_cleanup_if runs bodies us th).status ≡ th.status
run_status true bodies [] th = refl
run_status true bodies (u ∷ us) th = refl
run_status false bodies us th = refl

pub pops_come : {P : Type 0} (bodies : Bodies P) (b : Caller) (runs : Bool) (s : Turn P) → Comes s (pops_cleanup bodies b runs s)
pops_come bodies b runs s =
    let us = (thread_at s.machine b.thread).cleanups in
    let x = returns b res.Zero 0 (changes b.thread without_cleanup s) in
    λ u off k. changed_come b b.thread without_cleanup res.Zero 0 s (λ th. refl) u off
    (changes_fewer b.thread (runs_cleanup_if runs bodies us) x (λ h. sym (ap is_runnable (run_status runs bodies us (thread_at x.machine b.thread))) ∙ h) u k)

-- ---- the end of a body

wakes_joiner_come : {P : Type 0} (j : Joiner) (t : ℕ) (s : Turn P) → Comes s (wakes_joiner j t s)
wakes_joiner_come nobody t s = fewer_come s.machine s.machine s.direct (λ u r. r)
wakes_joiner_come has_joined t s = fewer_come s.machine s.machine s.direct (λ u r. r)
wakes_joiner_come (waits_to_join u) t s =
    let x = changes t (with_joiner has_joined) s in
    fewer_before s x (wakes u res.Zero (thread_at s.machine t).exit_value x) (changes_fewer t (with_joiner has_joined) s (λ h. h)) (wakes_come u res.Zero (thread_at s.machine t).exit_value x)

pub finishes_come : {P : Type 0} (kind : FrameKind) (t : ℕ) (s : Turn P) → Comes s (ends_frame kind t s)
finishes_come frame.Main t s =
    let x = changes_pending (without_target t) (tells (event.Exit t) (changes t without_life s)) in
    let j = (thread_at s.machine t).joiner in
    fewer_before s x (wakes_joiner j t x) (changes_fewer t without_life s (λ h. absurd cc)) (wakes_joiner_come j t x)
finishes_come frame.Cleanup t s = fewer_come s.machine (changes t without_top s).machine s.direct (changes_fewer t without_top s (λ h. h))
finishes_come frame.Signal t s = fewer_come s.machine (changes t without_top s).machine s.direct (changes_fewer t without_top s (λ h. h))
