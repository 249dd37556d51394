-- A setting of CLOCK_REALTIME looks only at the items that hold a reading: the others stay as they are.
use Rattle.std.proofs.Common.{◌≡◌, ◌<◌, ◌≤◌, ◌+◌, ◌∙◌, ℕ, zero, suc, false, None, Option, Some, ap, arith, inl, inr, is_some, length, refl, subst, sym}
use Rattle.std.proofs.Math.Arith.{lt_of_le-ne}
use Rattle.std.proofs.lemmas.Bool.Decides.{eqb_tells}
use Rattle.rules_bodies.specs.declared.cursor.Cursor.{Cursor}
use Rattle.rules_machine.specs.Clock.{thread_moved, timer_moved}
use Rattle.rules_machine.specs.State.{Thread}
use Rattle.kernel_threads.specs.RealDues.{real_due_in}
use Rattle.kernel_timers.specs.Timers.{timer_in}
use Rattle.kernel_table.specs.Movers.{KeepsPriorities}
use Rattle.kernel_table.specs.RealItems.{IsFirstExpiry, IsFirstWait, NoExpiryFrom, NoWaitFrom, expires_at_reading, waits_for_reading}
use Rattle.kernel_table.specs.Settings.{threads_moved, timer_real_due, timers_moved}
use Rattle.kernel_table.specs.Table.{Table, thread_at, with_thread, with_timer}
use Rattle.kernel_table.proofs.RealItems.{expiry_known, wait_known}
use Rattle.kernel_table.proofs.SetTimes.{no_thread_moves, no_timer_moves, threads_later, threads_long, timers_later, timers_long}

no_due : (o : Option ℕ) → is_some o ≡ false → o ≡ None
no_due None e = refl
no_due (Some due) e = absurd cc

-- ---- the threads

-- those that wait for no reading are passed over
threads_passed : (move : ℕ → ℕ) (from n : ℕ) (table : Table) → from ≤ n → ((u : ℕ) → from ≤ u → u < n → waits_for_reading (thread_at table u) ≡ false) →
    threads_moved move n table ≡ threads_moved move from table
threads_passed move from zero table le none = let it : from ≡ 0 = omega (arith, le) in ap (λ (k : ℕ). threads_moved move k table) (sym it)
threads_passed move from (suc n) table le none = elim (eqb_tells from (suc n)) [
  | inl same ↦ ap (λ (k : ℕ). threads_moved move k table) (sym same.1)
  | inr other ↦
      let less : from < suc n = lt_of_le-ne le other.1 in
      let below : from ≤ n = omega (arith, less) in
      let still : real_due_in (thread_at (threads_moved move n table) n).status ≡ None =
      ap (λ (th : Thread Cursor). real_due_in th.status) (threads_later move n n table (omega arith)) ∙ no_due (real_due_in (thread_at table n).status) (none n below (omega arith)) in
      no_thread_moves move n (threads_moved move n table) still ∙ threads_passed move from n table below (λ u low high. none u low (omega (arith, high)))
]

-- all threads below a number have moved
pub record MovedBelow (move : ℕ → ℕ) (old now : Table) (from : ℕ) : Type 0 where
  pub within : from ≤ length old.threads
  pub moved : KeepsPriorities (threads_moved move from) old now

module _ (move : ℕ → ℕ) (old now : Table) (from : ℕ) (h : MovedBelow move old now from) where
  -- the others are as they were
  pub thread_ahead : (u : ℕ) → from ≤ u → thread_at now u ≡ thread_at old u
  thread_ahead u le = ap (λ (x : Table). thread_at x u) h.moved.table ∙ threads_later move from u old le

  long : length now.threads ≡ length old.threads
  long = ap (λ (x : Table). length x.threads) h.moved.table ∙ threads_long move from old

  unread : (u : ℕ) → from ≤ u → waits_for_reading (thread_at now u) ≡ false → waits_for_reading (thread_at old u) ≡ false
  unread u le e = ap waits_for_reading (sym (thread_ahead u le)) ∙ e

  -- the next one that waits for a reading moves too
  pub wait_moved : (new : Table) (t : ℕ) → IsFirstWait now from t → KeepsPriorities (with_thread t (thread_moved move)) now new → MovedBelow move old new (t + 1)
  wait_moved new t first step =
      let one : suc t ≡ t + 1 = omega arith in
      let known = wait_known now.threads t first.itself in
      let to : threads_moved move t old ≡ threads_moved move from old = threads_passed move from t old first.low (λ u low high. unread u low (first.between u low high)) in
      record {
        within = omega (arith, known, long);
        moved = subst (λ (k : ℕ). KeepsPriorities (threads_moved move k) old new) one (record {
          table = step.table ∙ ap (with_thread t (thread_moved move)) (h.moved.table ∙ sym to);
          same = λ u lt. step.same u (omega (arith, lt, long)) ∙ h.moved.same u lt;
        });
      }

  -- where no other does, all have moved
  pub waits_moved : NoWaitFrom now from → KeepsPriorities (threads_moved move (length old.threads)) old now
  waits_moved none = record {
    table = h.moved.table ∙ sym (threads_passed move from (length old.threads) old h.within (λ u low high. unread u low (none u low)));
    same = h.moved.same;
  }

-- ---- the timers

timers_passed : (move : ℕ → ℕ) (from n : ℕ) (table : Table) → from ≤ n → ((j : ℕ) → from ≤ j → j < n → expires_at_reading (timer_in table.timers j) ≡ false) →
    timers_moved move n table ≡ timers_moved move from table
timers_passed move from zero table le none = let it : from ≡ 0 = omega (arith, le) in ap (λ (k : ℕ). timers_moved move k table) (sym it)
timers_passed move from (suc n) table le none = elim (eqb_tells from (suc n)) [
  | inl same ↦ ap (λ (k : ℕ). timers_moved move k table) (sym same.1)
  | inr other ↦
      let less : from < suc n = lt_of_le-ne le other.1 in
      let below : from ≤ n = omega (arith, less) in
      let still : timer_real_due (timer_in (timers_moved move n table).timers n) ≡ None =
      ap timer_real_due (timers_later move n n table (omega arith)) ∙ no_due (timer_real_due (timer_in table.timers n)) (none n below (omega arith)) in
      no_timer_moves move n (timers_moved move n table) still ∙ timers_passed move from n table below (λ j low high. none j low (omega (arith, high)))
]

-- all timers below a number have moved
pub record ExpiriesMoved (move : ℕ → ℕ) (old now : Table) (from : ℕ) : Type 0 where
  pub within : from ≤ length old.timers
  pub moved : now ≡ timers_moved move from old

module _ (move : ℕ → ℕ) (old now : Table) (from : ℕ) (h : ExpiriesMoved move old now from) where
  pub timer_ahead : (j : ℕ) → from ≤ j → timer_in now.timers j ≡ timer_in old.timers j
  timer_ahead j le = ap (λ (x : Table). timer_in x.timers j) h.moved ∙ timers_later move from j old le

  same_many : length now.timers ≡ length old.timers
  same_many = ap (λ (x : Table). length x.timers) h.moved ∙ timers_long move from old

  unread_timer : (j : ℕ) → from ≤ j → expires_at_reading (timer_in now.timers j) ≡ false → expires_at_reading (timer_in old.timers j) ≡ false
  unread_timer j le e = ap expires_at_reading (sym (timer_ahead j le)) ∙ e

  pub expiry_moved : (new : Table) (k : ℕ) → IsFirstExpiry now from k → new ≡ with_timer k (timer_moved move) now → ExpiriesMoved move old new (k + 1)
  expiry_moved new k first step =
      let one : suc k ≡ k + 1 = omega arith in
      let known = expiry_known now.timers k first.itself in
      let to : timers_moved move k old ≡ timers_moved move from old = timers_passed move from k old first.low (λ j low high. unread_timer j low (first.between j low high)) in
      record {
        within = omega (arith, known, same_many);
        moved = subst (λ (n : ℕ). new ≡ timers_moved move n old) one (step ∙ ap (with_timer k (timer_moved move)) (h.moved ∙ sym to));
      }

  pub expiries_moved : NoExpiryFrom now from → now ≡ timers_moved move (length old.timers) old
  expiries_moved none = h.moved ∙ sym (timers_passed move from (length old.timers) old h.within (λ j low high. unread_timer j low (none j low)))
