-- The numbers of the items that hold a reading of CLOCK_REALTIME are kept, as one of them changes.
use Rattle.std.proofs.Common.{◌≡◌, ◌<◌, ◌≤◌, ◌∙◌, ℕ, List, Bool, true, false, None, Option, Some, ap, arith, inl, inr, is_some, length, refl, slice_set, sym}
use Rattle.std.specs.Prelude.{nat_lt, option_and_then}
use Rattle.std.specs.Option.{option_map}
use Rattle.std.proofs.lemmas.Bool.Decides.{eqb_tells, nat_tests}
use Rattle.std.proofs.lemmas.List.{get_or-set_other, get_or-set_same}
use Rattle.rules_bodies.specs.declared.cursor.Cursor.{Cursor}
use Rattle.rules_machine.specs.Clock.{thread_moved}
use Rattle.rules_machine.specs.Lists.{changed_at}
use Rattle.rules_machine.specs.State.{Thread, Timer, Waiting}
use Rattle.rules_machine.specs.Threads.{no_thread, no_timer, thread_in}
use Rattle.rules_machine.proofs.Reading.{changed-keeps}
use Rattle.parts_bits.specs.Sets.{Turns, has}
use Rattle.kernel_threads.specs.RealDues.{real_due, real_due_if, real_due_in}
use Rattle.kernel_timers.specs.Timers.{timer_in}
use Rattle.kernel_table.specs.Opening.{NoneWaits}
use Rattle.kernel_table.specs.RealItems.{AreKept, expires_at_reading, waits_for_reading}
use Rattle.kernel_table.proofs.SetTimes.{beyond, wait_then}

-- ---- one thread changes

-- and its number comes in or goes out
pub kept_after : (threads : List (Thread Cursor)) (timers : List Timer) (waits new expiries : List ℕ) (t : ℕ) (th : Thread Cursor) (is : Bool) → t < length threads → waits_for_reading th ≡ is →
    Turns t is waits new → AreKept threads timers waits expiries → AreKept (slice_set threads t th) timers new expiries
kept_after threads timers waits new expiries t th is known holds turned h = record {
  of_threads = λ u. elim (eqb_tells u t) [
    | inl same ↦ ap (λ (v : ℕ). has v new) same.1 ∙ turned.itself ∙ sym holds
        ∙ sym (ap (λ (v : ℕ). waits_for_reading (thread_in (slice_set threads t th) v)) same.1 ∙ ap waits_for_reading (get_or-set_same threads t th no_thread known))
    | inr other ↦ turned.others u other.1 ∙ h.of_threads u ∙ sym (ap waits_for_reading (get_or-set_other threads t u th no_thread other.1))
  ];
  of_timers = h.of_timers;
}

-- and waits for a reading just where it did
pub still_kept : (threads : List (Thread Cursor)) (timers : List Timer) (waits expiries : List ℕ) (t : ℕ) (f : Thread Cursor → Thread Cursor) →
    ((th : Thread Cursor) → waits_for_reading (f th) ≡ waits_for_reading th) → AreKept threads timers waits expiries → AreKept (changed_at no_thread t f threads) timers waits expiries
still_kept threads timers waits expiries t f same h = record {
  of_threads = λ u. h.of_threads u ∙ sym (changed-keeps no_thread t u f waits_for_reading same threads);
  of_timers = h.of_timers;
}

same_some : (f : ℕ → ℕ) (o : Option ℕ) → is_some (option_map f o) ≡ is_some o
same_some f None = refl
same_some f (Some x) = refl

-- a setting moves its reading, and takes none away
pub still_waits : (move : ℕ → ℕ) (th : Thread Cursor) → waits_for_reading (thread_moved move th) ≡ waits_for_reading th
still_waits move th = ap is_some (wait_then move th.status) ∙ same_some move (real_due_in th.status)

-- ---- one timer changes

-- and expires at a reading just where it did
pub still_kept_timer : (threads : List (Thread Cursor)) (timers : List Timer) (waits expiries : List ℕ) (k : ℕ) (f : Timer → Timer) →
    ((x : Timer) → expires_at_reading (f x) ≡ expires_at_reading x) → AreKept threads timers waits expiries → AreKept threads (changed_at no_timer k f timers) waits expiries
still_kept_timer threads timers waits expiries k f same h = record {
  of_threads = h.of_threads;
  of_timers = λ j. h.of_timers j ∙ sym (changed-keeps no_timer k j f expires_at_reading same timers);
}

-- ---- before anything has happened

pub none_kept : (threads : List (Thread Cursor)) (timers : List Timer) (waits expiries : List ℕ) → NoneWaits threads → ((k : ℕ) → (timer_in timers k).due ≡ None) →
    ((n : ℕ) → has n waits ≡ false) → ((n : ℕ) → has n expiries ≡ false) → AreKept threads timers waits expiries
none_kept threads timers waits expiries waiting disarmed no_waits no_expiries = record {
  of_threads = λ t. no_waits t ∙ sym (ap (λ (o : Option Waiting). is_some (option_and_then real_due o)) (waiting t));
  of_timers = λ k. no_expiries k ∙ sym (ap (λ (due : Option ℕ). is_some (real_due_if due (timer_in timers k).is_reading)) (disarmed k));
}

-- ---- what is kept is there

pub wait_known : (threads : List (Thread Cursor)) (t : ℕ) → waits_for_reading (thread_in threads t) ≡ true → t < length threads
wait_known threads t h = by_test (nat_lt t (length threads)) refl
  where
    by_test : (b : Bool) → nat_lt t (length threads) ≡ b → t < length threads
    by_test true e = grind (arith, nat_tests, e)
    by_test false e =
        let past : length threads ≤ t = grind (arith, nat_tests, e) in
        let none : false ≡ true = sym (ap waits_for_reading (beyond no_thread threads t past)) ∙ h in
        absurd (cc none)

pub expiry_known : (timers : List Timer) (k : ℕ) → expires_at_reading (timer_in timers k) ≡ true → k < length timers
expiry_known timers k h = by_test (nat_lt k (length timers)) refl
  where
    by_test : (b : Bool) → nat_lt k (length timers) ≡ b → k < length timers
    by_test true e = grind (arith, nat_tests, e)
    by_test false e =
        let past : length timers ≤ k = grind (arith, nat_tests, e) in
        let none : false ≡ true = sym (ap expires_at_reading (beyond no_timer timers k past)) ∙ h in
        absurd (cc none)
