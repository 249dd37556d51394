-- One timer changes: the wheel has its expiry, and its number is kept just where it expires at a reading.
use Rattle.std.proofs.Common.{◌≡◌, ◌<◌, ◌≤◌, ◌+◌, ◌∙◌, ℕ, List, Bool, true, false, None, Option, Some, ap, arith, inl, inr, is_some, length, refl, subst, sym}
use Rattle.std.proofs.lemmas.Bool.Decides.{eqb_tells}
use Rattle.std.proofs.lemmas.List.{get_or-set_other, get_or-set_same, length-set}
use Rattle.rules_bodies.specs.declared.cursor.Cursor.{Cursor}
use Rattle.rules_machine.specs.Lists.{changed_at}
use Rattle.rules_machine.specs.State.{Thread, Timer}
use Rattle.rules_machine.specs.Threads.{no_timer}
use Rattle.rules_machine.specs.Timers.{armed_again, next_expiry}
use Rattle.rules_machine.proofs.Reading.{changed-keeps}
use Rattle.parts_bits.specs.Sets.{Turns, has}
use Rattle.parts_wheel.specs.Dues.{due_of}
use Rattle.kernel_threads.specs.RealDues.{real_due_if}
use Rattle.kernel_timers.specs.Timers.{timer_in}
use Rattle.kernel_table.specs.RealItems.{AreKept, expires_at_reading}
use Rattle.kernel_table.specs.Tied.{AreArmed, expiring}

few_still : (timers : List Timer) (k : ℕ) (f : Timer → Timer) → length timers ≤ 32 → length (changed_at no_timer k f timers) ≤ 32
few_still timers k f few = subst (λ (n : ℕ). n ≤ 32) (sym (length-set timers k (f (timer_in timers k)))) few

-- it is due when it was
pub still_armed_timer : (threads : List (Thread Cursor)) (timers : List Timer) (dues : List (Option ℕ)) (k : ℕ) (f : Timer → Timer) → ((x : Timer) → (f x).due ≡ x.due) →
    AreArmed threads timers dues → AreArmed threads (changed_at no_timer k f timers) dues
still_armed_timer threads timers dues k f same h = record {
  few_timers = few_still timers k f h.few_timers;
  numbers = h.numbers;
  refills = h.refills;
  starts = h.starts;
  timeouts = h.timeouts;
  expiries = λ j lt. h.expiries j lt ∙ sym (changed-keeps no_timer k j f (λ (x : Timer). x.due) same timers);
}

expiring_anew : (threads : List (Thread Cursor)) (timers : List Timer) (dues : List (Option ℕ)) (k : ℕ) (f : Timer → Timer) → k < length timers → AreArmed threads timers dues →
    AreArmed threads (changed_at no_timer k f timers) (expiring k (timer_in (changed_at no_timer k f timers) k) dues)
expiring_anew threads timers dues k f known h =
    let new = changed_at no_timer k f timers in
    let due = (timer_in new k).due in
    record {
      few_timers = few_still timers k f h.few_timers;
      numbers = length-set dues (768 + k) due ∙ h.numbers;
      refills = λ t lt. get_or-set_other dues (768 + k) t due None (omega (arith, lt)) ∙ h.refills t lt;
      starts = λ t lt. get_or-set_other dues (768 + k) (256 + t) due None (omega (arith, lt)) ∙ h.starts t lt;
      timeouts = λ t lt. get_or-set_other dues (768 + k) (512 + t) due None (omega (arith, lt)) ∙ h.timeouts t lt;
      expiries = λ j lt. elim (eqb_tells j k) [
        | inl same ↦ ap (λ (v : ℕ). due_of (768 + v) (expiring k (timer_in new k) dues)) same.1
            ∙ get_or-set_same dues (768 + k) due None (omega (arith, known, h.numbers, h.few_timers)) ∙ sym (ap (λ (v : ℕ). (timer_in new v).due) same.1)
        | inr other ↦ get_or-set_other dues (768 + k) (768 + j) due None (λ e. other.1 (omega (arith, e)))
            ∙ h.expiries j lt ∙ sym (ap (λ (x : Timer). x.due) (get_or-set_other timers k j (f (timer_in timers k)) no_timer other.1))
      ];
    }

-- its expiry is armed anew
pub expiring_armed : (threads : List (Thread Cursor)) (timers new : List Timer) (dues after : List (Option ℕ)) (k : ℕ) (f : Timer → Timer) → k < length timers →
    new ≡ changed_at no_timer k f timers → after ≡ expiring k (timer_in new k) dues → AreArmed threads timers dues → AreArmed threads new after
expiring_armed threads timers new dues after k f known is set h = rw (set, is) (expiring_anew threads timers dues k f known h)

-- its number comes in or goes out
pub turned_kept : (threads : List (Thread Cursor)) (timers new : List Timer) (waits expiries after : List ℕ) (k : ℕ) (f : Timer → Timer) (expires : Bool) →
    new ≡ changed_at no_timer k f timers → expires_at_reading (timer_in new k) ≡ expires → Turns k expires expiries after →
    AreKept threads timers waits expiries → AreKept threads new waits after
turned_kept threads timers new waits expiries after k f expires is holds turned h = record {
  of_threads = h.of_threads;
  of_timers = λ j. elim (eqb_tells j k) [
    | inl same ↦ ap (λ (v : ℕ). has v after) same.1 ∙ turned.itself ∙ sym holds ∙ sym (ap (λ (v : ℕ). expires_at_reading (timer_in new v)) same.1)
    | inr other ↦ turned.others j other.1 ∙ h.of_timers j
        ∙ sym (ap (λ (ts : List Timer). expires_at_reading (timer_in ts j)) is ∙ ap expires_at_reading (get_or-set_other timers k j (f (timer_in timers k)) no_timer other.1))
  ];
}

changed_here : (timers new : List Timer) (k : ℕ) (f : Timer → Timer) → k < length timers → new ≡ changed_at no_timer k f timers →
    expires_at_reading (timer_in new k) ≡ expires_at_reading (f (timer_in timers k))
changed_here timers new k f known is =
    ap (λ (ts : List Timer). expires_at_reading (timer_in ts k)) is ∙ ap expires_at_reading (get_or-set_same timers k (f (timer_in timers k)) no_timer known)

unread : (due : Option ℕ) → is_some (real_due_if due false) ≡ false
unread None = refl
unread (Some due) = refl

-- after its interval it expires at no reading
pub again_unread : (timers new : List Timer) (k now : ℕ) → k < length timers → new ≡ changed_at no_timer k (armed_again now) timers → expires_at_reading (timer_in new k) ≡ false
again_unread timers new k now known is = changed_here timers new k (armed_again now) known is ∙ unread (next_expiry now (timer_in timers k).interval)

real_still : (at : ℕ) (due : Option ℕ) (is_reading : Bool) → is_some (real_due_if due is_reading) ≡ true → is_some (real_due_if (Some at) is_reading) ≡ true
real_still at None is_reading e = absurd cc
real_still at (Some due) true e = refl
real_still at (Some due) false e = absurd cc

-- it expires at a reading before and after
pub reading_kept : (threads : List (Thread Cursor)) (timers new : List Timer) (waits expiries : List ℕ) (k at : ℕ) → k < length timers →
    new ≡ changed_at no_timer k (λ (x : Timer). record x { due = Some at }) timers → expires_at_reading (timer_in timers k) ≡ true →
    AreKept threads timers waits expiries → AreKept threads new waits expiries
reading_kept threads timers new waits expiries k at known is reads h =
    let change = (λ (x : Timer). record x { due = Some at }) in
    let holds = changed_here timers new k change known is ∙ real_still at (timer_in timers k).due (timer_in timers k).is_reading reads in
    turned_kept threads timers new waits expiries expiries k change true is holds (record { itself = h.of_timers k ∙ reads; others = λ u _. refl }) h
