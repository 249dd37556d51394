-- A mutex that somebody waits for goes to its best waiter, which wakes.
use Rattle.std.proofs.Common.{◌≡◌, ◌∙◌, ℕ, false, true, Option, None, Some, ap, refl, sym}
use Rattle.std.specs.Prelude.{option_map}
use Rattle.words_numbers.specs.declared.res.Res.TheVariants as res
use Rattle.rules_bodies.specs.declared.cursor.Cursor.{Cursor}
use Rattle.words_numbers.specs.declared.res.Res.{Res}
use Rattle.rules_machine.specs.declared.thread.CondEnd.TheVariants as cond_end
use Rattle.rules_machine.specs.State.{Machine, Wait, Waiting, for_condition, for_end, for_message, for_mutex, for_mutex_again, for_room, for_semaphore, for_signal, for_time}
use Rattle.rules_machine.specs.Threads.{waiting_of}
use Rattle.rules_machine.specs.Turns.{Turn, changes_mutex, ◌▷◌}
use Rattle.rules_machine.specs.Mutexes.{hands_over, releases, taken_by, waits_for_mutex, wakes_owner}
use Rattle.rules_machine.specs.Waiters.{Waiter, best_waiter}
use Rattle.rules_machine.specs.Waking.{wakes, wakes_cancelled}
use Rattle.rules_moves.proofs.Waiters.Best.{best_waits}
use Rattle.parts_waiters.specs.declared.WaitObj.TheVariants.{Mutex}
use Rattle.parts_waiters.specs.Ties.{is_object, object_of}
use Rattle.kernel_state.proofs.Waits.{IsBest}
use Rattle.kernel_threads.specs.Plain.{wait_of}
use Rattle.kernel_threads.specs.declared.status.Wait as plain
use Rattle.calls_sync.specs.Answers.{is_cancelled_wait, owner_answer}

-- ---- the answer of the one that wakes

none_of : (o : Option Waiting) (x : Option plain.Wait) → x ≡ None → option_map wait_of x ≡ option_map (λ (w : Waiting). w.wait) o → (v : Waiting) → o ≡ Some v → res.Zero ≡ owner_answer v.wait
none_of None x none is v e = absurd cc
none_of (Some w) x none is v e = absurd (let f : None ≡ Some w.wait = rw none at is in cc)

some_of : (o : Option Waiting) (y : plain.Wait) → option_map wait_of (Some y) ≡ option_map (λ (w : Waiting). w.wait) o → (v : Waiting) → o ≡ Some v → owner_answer (wait_of y) ≡ owner_answer v.wait
some_of None y is v e = absurd cc
some_of (Some w) y is v e = let f : wait_of y ≡ w.wait = cc in let g : w ≡ v = cc in ap owner_answer f ∙ ap (λ (u : Waiting). owner_answer u.wait) g

pub none_waits : (m : Machine Cursor) (t : ℕ) (x : Option plain.Wait) → x ≡ None → option_map wait_of x ≡ option_map (λ (w : Waiting). w.wait) (waiting_of m t) →
    (v : Waiting) → waiting_of m t ≡ Some v → res.Zero ≡ owner_answer v.wait
none_waits m t x none is v e = none_of (waiting_of m t) x none is v e

pub some_waits : (m : Machine Cursor) (t : ℕ) (y : plain.Wait) → option_map wait_of (Some y) ≡ option_map (λ (w : Waiting). w.wait) (waiting_of m t) →
    (v : Waiting) → waiting_of m t ≡ Some v → owner_answer (wait_of y) ≡ owner_answer v.wait
some_waits m t y is v e = some_of (waiting_of m t) y is v e

-- ---- whether it was cancelled

none_cancelled_of : (o : Option Waiting) (x : Option plain.Wait) → x ≡ None → option_map wait_of x ≡ option_map (λ (w : Waiting). w.wait) o → (v : Waiting) → o ≡ Some v → false ≡ is_cancelled_wait v.wait
none_cancelled_of None x none is v e = absurd cc
none_cancelled_of (Some w) x none is v e = absurd (let f : None ≡ Some w.wait = rw none at is in cc)

some_cancelled_of : (o : Option Waiting) (y : plain.Wait) → option_map wait_of (Some y) ≡ option_map (λ (w : Waiting). w.wait) o → (v : Waiting) → o ≡ Some v → is_cancelled_wait (wait_of y) ≡ is_cancelled_wait v.wait
some_cancelled_of None y is v e = absurd cc
some_cancelled_of (Some w) y is v e = let f : wait_of y ≡ w.wait = cc in let g : w ≡ v = cc in ap is_cancelled_wait f ∙ ap (λ (u : Waiting). is_cancelled_wait u.wait) g

pub none_cancelled : (m : Machine Cursor) (t : ℕ) (x : Option plain.Wait) → x ≡ None → option_map wait_of x ≡ option_map (λ (w : Waiting). w.wait) (waiting_of m t) →
    (v : Waiting) → waiting_of m t ≡ Some v → false ≡ is_cancelled_wait v.wait
none_cancelled m t x none is v e = none_cancelled_of (waiting_of m t) x none is v e

pub some_cancelled : (m : Machine Cursor) (t : ℕ) (y : plain.Wait) → option_map wait_of (Some y) ≡ option_map (λ (w : Waiting). w.wait) (waiting_of m t) →
    (v : Waiting) → waiting_of m t ≡ Some v → is_cancelled_wait (wait_of y) ≡ is_cancelled_wait v.wait
some_cancelled m t y is v e = some_cancelled_of (waiting_of m t) y is v e

-- with a mutex that it waited for a thread returns from its lock, or from its condition wait, unless that was cancelled
owner_wakes : (wait : Wait) (t : ℕ) (s : Turn Cursor) → false ≡ is_cancelled_wait wait → wakes_owner wait t s ≡ wakes t (owner_answer wait) 0 s
owner_wakes (for_mutex k) t s on = refl
owner_wakes (for_mutex_again k cond_end.Signalled) t s on = refl
owner_wakes (for_mutex_again k cond_end.Timedout) t s on = refl
owner_wakes (for_mutex_again k cond_end.Cancelled) t s on = absurd cc
owner_wakes (for_condition c k) t s on = refl
owner_wakes (for_end u) t s on = refl
owner_wakes (for_semaphore k) t s on = refl
owner_wakes for_time t s on = refl
owner_wakes (for_room q message) t s on = refl
owner_wakes (for_message q) t s on = refl
owner_wakes (for_signal signals) t s on = refl

cancelled_wakes : (wait : Wait) (t : ℕ) (s : Turn Cursor) → true ≡ is_cancelled_wait wait → wakes_owner wait t s ≡ wakes_cancelled t s
cancelled_wakes (for_mutex k) t s off = absurd cc
cancelled_wakes (for_mutex_again k cond_end.Signalled) t s off = absurd cc
cancelled_wakes (for_mutex_again k cond_end.Timedout) t s off = absurd cc
cancelled_wakes (for_mutex_again k cond_end.Cancelled) t s off = refl
cancelled_wakes (for_condition c k) t s off = absurd cc
cancelled_wakes (for_end u) t s off = absurd cc
cancelled_wakes (for_semaphore k) t s off = absurd cc
cancelled_wakes for_time t s off = absurd cc
cancelled_wakes (for_room q message) t s off = absurd cc
cancelled_wakes (for_message q) t s off = absurd cc
cancelled_wakes (for_signal signals) t s off = absurd cc

pub passes_for : (k : ℕ) (w : Wait) → waits_for_mutex k w ≡ is_object (Mutex k) (object_of w)
passes_for k (for_mutex j) = refl
passes_for k (for_mutex_again j how) = refl
passes_for k (for_condition c j) = refl
passes_for k (for_end u) = refl
passes_for k (for_semaphore j) = refl
passes_for k for_time = refl
passes_for k (for_room q message) = refl
passes_for k (for_message q) = refl
passes_for k (for_signal signals) = refl

-- what is said of the thread that is served first of those that wait for a mutex
abbrev pub IsFirst : Machine Cursor → ℕ → ℕ → Type 0
IsFirst m k w = Some w ≡ option_map (λ (v : Waiter). v.thread) (best_waiter m (waits_for_mutex k))

pub first_is : (m : Machine Cursor) (k w : ℕ) → IsBest m (Mutex k) (Some w) → IsFirst m k w
first_is m k w is = is (waits_for_mutex k) (passes_for k)

module _ (s : Turn Cursor) (k w : ℕ) (is : IsFirst s.machine k w) where
  -- what the first one's wait comes to, the mutex's release comes to
  released_as : (wake : Turn Cursor → Turn Cursor) → ((v : Waiting) → waiting_of s.machine w ≡ Some v → (x : Turn Cursor) → wake x ≡ wakes_owner v.wait w x) → (s ▷ changes_mutex k (taken_by w) ▷ wake) ≡ releases k s
  released_as wake same = by_best (best_waiter s.machine (waits_for_mutex k)) refl is
    where
      by_best : (o : Option Waiter) → best_waiter s.machine (waits_for_mutex k) ≡ o → Some w ≡ option_map (λ (v : Waiter). v.thread) o → (s ▷ changes_mutex k (taken_by w) ▷ wake) ≡ hands_over o k s
      by_best None e first = absurd cc
      by_best (Some v) e first =
          let it : w ≡ v.thread = cc in
          let waits = (best_waits s.machine (waits_for_mutex k) v e).0 in
          same v.waiting (ap (λ (u : ℕ). waiting_of s.machine u) it ∙ waits) (s ▷ changes_mutex k (taken_by w))
          ∙ ap (λ (u : ℕ). s ▷ changes_mutex k (taken_by u) ▷ wakes_owner v.waiting.wait u) it

  pub handed_over : (r : Res) → ((v : Waiting) → waiting_of s.machine w ≡ Some v → false ≡ is_cancelled_wait v.wait) → ((v : Waiting) → waiting_of s.machine w ≡ Some v → r ≡ owner_answer v.wait) →
      (s ▷ changes_mutex k (taken_by w) ▷ wakes w r 0) ≡ releases k s
  handed_over r on answer = released_as (wakes w r 0) (λ v e x. ap (λ (i : Res). wakes w i 0 x) (answer v e) ∙ sym (owner_wakes v.wait w x (on v e)))

  pub handed_cancelled : ((v : Waiting) → waiting_of s.machine w ≡ Some v → true ≡ is_cancelled_wait v.wait) → (s ▷ changes_mutex k (taken_by w) ▷ wakes_cancelled w) ≡ releases k s
  handed_cancelled off = released_as (wakes_cancelled w) (λ v e x. sym (cancelled_wakes v.wait w x (off v e)))
