-- What the wheel tells of the machine: its first due item.
use Rattle.std.proofs.Common.{◌≡◌, ◌<◌, ◌≤◌, ◌+◌, ◌-◌, ◌∙◌, ◌⊎◌, ℕ, zero, suc, List, [], ◌∷◌, ◌++◌, Bool, true, false, None, Option, Some, ap, arith, inl, inr, length, nat_lt, refl, subst, sym}
use Rattle.std.specs.Prelude.{filter, if◌then◌else◌, map, nat_le}
use Rattle.std.specs.List.{range_with_len}
use Rattle.std.proofs.lemmas.Bool.Decides.{eqb_tells}
use Rattle.std.proofs.lemmas.List.{get_or_past}
use Rattle.rules_bodies.specs.declared.cursor.Cursor.{Cursor}
use Rattle.words_numbers.specs.Items.{item_of}
use Rattle.words_numbers.specs.declared.item.Item.{Item}
use Rattle.words_numbers.specs.declared.item.Item.TheVariants as item
use Rattle.rules_machine.specs.DueItems.{first_item, has_come, next_item, refill_due, start_due, start_in, timeout_due, timer_due}
use Rattle.rules_machine.specs.State.{Machine, Mutex, Thread, Timer}
use Rattle.rules_machine.specs.Threads.{no_thread, no_timer, thread_in}
use Rattle.kernel_timers.specs.Timers.{timer_in}
use Rattle.parts_wheel.specs.Dues.{IsFirstDue, NoneIsDue, due_of}
use Rattle.kernel_table.specs.Table.{machine_at}
use Rattle.kernel_table.specs.Tied.{AreArmed}
use Rattle.kernel_table.specs.Times.{in_time, last_instant, refill_of, start_of, timeout_of}

pub lt_or : (m n : ℕ) → (m < n) ⊎ (n ≤ m)
lt_or zero zero = inr (omega arith)
lt_or zero (suc n) = inl (omega arith)
lt_or (suc m) zero = inr (omega arith)
lt_or (suc m) (suc n) = by_rest (lt_or m n)
  where
    by_rest : (m < n) ⊎ (n ≤ m) → (suc m < suc n) ⊎ (suc n ≤ suc m)
    by_rest (inl l) = inl (omega (arith, l))
    by_rest (inr l) = inr (omega (arith, l))

pub some_of : (o : Option ℕ) (x y : ℕ) → o ≡ Some x → o ≡ Some y → x ≡ y
some_of o x y a b = let e : Some x ≡ Some y = sym a ∙ b in cc

pub no_some : (x : ℕ) → None ≡ Some x → ⊥
no_some x e = cc

-- ---- what has come

-- nothing of an instant up to now
abbrev pub IsToCome : ℕ → Option ℕ → Type 0
IsToCome now o = (d : ℕ) → o ≡ Some d → now < d

le_false : (d now : ℕ) → now < d → nat_le d now ≡ false
le_false d now lt = grind arith

le_true : (d now : ℕ) → d ≤ now → nat_le d now ≡ true
le_true d now le = grind arith

to_come : (now : ℕ) (o : Option ℕ) → IsToCome now o → has_come o now ≡ false
to_come now None h = refl
to_come now (Some d) h = le_false d now (h d refl)

come : (now d : ℕ) (o : Option ℕ) → o ≡ Some d → d ≤ now → has_come o now ≡ true
come now d o is le = rw is (le_true d now le)

-- of a tick that need be no instant
some_in_time : (at d : ℕ) → in_time (Some at) ≡ Some d → at ≡ d
some_in_time at d = by_test (nat_le at last_instant) refl
  where
    by_test : (b : Bool) → nat_le at last_instant ≡ b → (if b then Some at else None) ≡ Some d → at ≡ d
    by_test true e h = cc
    by_test false e h = absurd (no_some d h)

pub is_in_time : (o : Option ℕ) (d : ℕ) → in_time o ≡ Some d → o ≡ Some d
is_in_time None d h = absurd (no_some d h)
is_in_time (Some at) d h = ap (λ (n : ℕ). Some n) (some_in_time at d h)

pub kept_in_time : (at : ℕ) → at ≤ last_instant → in_time (Some at) ≡ Some at
kept_in_time at le = ap (λ (b : Bool). if b then Some at else None) (le_true at last_instant le)

pub past_time : (at : ℕ) → last_instant < at → in_time (Some at) ≡ None
past_time at lt = ap (λ (b : Bool). if b then Some at else None) (le_false at last_instant lt)

later_to_come : (now : ℕ) (o : Option ℕ) → now ≤ last_instant → IsToCome now (in_time o) → IsToCome now o
later_to_come now None small h d e = absurd (no_some d e)
later_to_come now (Some at) small h d e = by_side (lt_or last_instant at)
  where
    same : at ≡ d
    same = some_of (Some at) at d refl e

    by_side : (last_instant < at) ⊎ (at ≤ last_instant) → now < d
    by_side (inl lt) = omega (arith, lt, small, same)
    by_side (inr le) = h d (kept_in_time at le ∙ e)

-- ---- numbers that pass

module _ (passes : ℕ → Bool) where
  by_first : (a : ℕ) (ns : List ℕ) (b : Bool) → passes a ≡ b → filter passes (a ∷ ns) ≡ (if b then a ∷ filter passes ns else filter passes ns)
  by_first a ns true e = rw e refl
  by_first a ns false e = rw e refl

  none_pass : (n a : ℕ) → ((u : ℕ) → a ≤ u → u < a + n → passes u ≡ false) → filter passes (range_with_len a n) ≡ []
  none_pass zero a h = refl
  none_pass (suc n) a h = by_first a (range_with_len (a + 1) n) false (h a (omega arith) (omega arith))
      ∙ none_pass n (a + 1) (λ u le lt. h u (omega (arith, le)) (omega (arith, lt)))

  first_pass : (n a t : ℕ) → a ≤ t → t < a + n → passes t ≡ true → ((u : ℕ) → a ≤ u → u < t → passes u ≡ false) →
      (rest : List ℕ) × (filter passes (range_with_len a n) ≡ t ∷ rest)
  first_pass zero a t le lt here before = absurd (omega (arith, le, lt))
  first_pass (suc n) a t le lt here before = elim (eqb_tells a t) [
    | inl same ↦ (filter passes (range_with_len (a + 1) n), by_first a (range_with_len (a + 1) n) true (ap passes same.1 ∙ here) ∙ ap (λ (m : ℕ). m ∷ filter passes (range_with_len (a + 1) n)) same.1)
    | inr other ↦ (let less : a < t = omega (arith, le, other.1) in
        let more = first_pass n (a + 1) t (omega (arith, less)) (omega (arith, lt)) here (λ u low high. before u (omega (arith, low)) high) in
        (more.0, by_first a (range_with_len (a + 1) n) false (before a (omega arith) less) ∙ more.1))
  ]

-- ---- the first item

module _ (threads : List (Thread Cursor)) (mutexes : List Mutex) (timers : List Timer) (now : ℕ) (dues : List (Option ℕ)) (few : length threads ≤ 256) (armed : AreArmed threads timers dues)
    (small : now ≤ last_instant) where
  abbrev m : Machine Cursor
  m = machine_at now (record { threads = threads; mutexes = mutexes; timers = timers })

  abbrev of : (Machine Cursor → ℕ → Option ℕ) → List ℕ
  of due = filter (λ (n : ℕ). has_come (due m n) now) (range_with_len 0 (length threads))

  abbrev expired : List ℕ
  expired = filter (λ (n : ℕ). has_come (timer_due m n) now) (range_with_len 0 (length timers))

  abbrev head_of : List ℕ → List ℕ → List ℕ → List ℕ → Option Item
  head_of refills starts timeouts expiries = first_item None (map item.Refill refills ++ map item.Start starts ++ map item.Timeout timeouts ++ map item.Timer expiries)

  head_is : (a b c d x y z w : List ℕ) → a ≡ x → b ≡ y → c ≡ z → d ≡ w → head_of a b c d ≡ head_of x y z w
  head_is a b c d x y z w e f g h =
      ap (λ (l : List ℕ). head_of l b c d) e ∙ ap (λ (l : List ℕ). head_of x l c d) f ∙ ap (λ (l : List ℕ). head_of x y l d) g ∙ ap (λ (l : List ℕ). head_of x y z l) h

  no_refill : ((t : ℕ) → t < 256 → IsToCome now (due_of t dues)) → of refill_due ≡ []
  no_refill h = none_pass (λ (n : ℕ). has_come (refill_due m n) now) (length threads) 0 (λ u le lt.
      let below : u < 256 = omega (arith, lt, few) in
      to_come now (refill_of (thread_in threads u)) (λ d e. h u below d (armed.refills u below ∙ e)))

  no_start : ((t : ℕ) → t < 256 → IsToCome now (due_of (256 + t) dues)) → of start_due ≡ []
  no_start h = none_pass (λ (n : ℕ). has_come (start_due m n) now) (length threads) 0 (λ u le lt.
      let below : u < 256 = omega (arith, lt, few) in
      to_come now (start_in (thread_in threads u).status) (later_to_come now (start_in (thread_in threads u).status) small (λ d e. h u below d (armed.starts u below ∙ e))))

  no_timeout : ((t : ℕ) → t < 256 → IsToCome now (due_of (512 + t) dues)) → of timeout_due ≡ []
  no_timeout h = none_pass (λ (n : ℕ). has_come (timeout_due m n) now) (length threads) 0 (λ u le lt.
      let below : u < 256 = omega (arith, lt, few) in
      to_come now (timeout_of (thread_in threads u)) (λ d e. h u below d (armed.timeouts u below ∙ e)))

  few_there : (u : ℕ) → u < 0 + length timers → u < 256
  few_there u lt = let most = armed.few_timers in omega (arith, lt, most)

  no_expiry : ((k : ℕ) → k < 256 → IsToCome now (due_of (768 + k) dues)) → expired ≡ []
  no_expiry h = none_pass (λ (n : ℕ). has_come (timer_due m n) now) (length timers) 0 (λ u le lt.
      let below = few_there u lt in
      to_come now (timer_in timers u).due (λ d e. h u below d (armed.expiries u below ∙ e)))

  -- where nothing is due
  pub none_is : NoneIsDue now dues → None ≡ next_item m
  none_is none = sym (head_is (of refill_due) (of start_due) (of timeout_due) expired [] [] [] []
      (no_refill (λ t lt d e. none t d e)) (no_start (λ t lt d e. none (256 + t) d e)) (no_timeout (λ t lt d e. none (512 + t) d e)) (no_expiry (λ k lt d e. none (768 + k) d e)))

  -- what is due of a number is due of a thread
  pub is_thread : (view : Thread Cursor → Option ℕ) (t d : ℕ) → view no_thread ≡ None → view (thread_in threads t) ≡ Some d → t < length threads
  is_thread view t d nothing is = by_side (lt_or t (length threads))
    where
      by_side : (t < length threads) ⊎ (length threads ≤ t) → t < length threads
      by_side (inl lt) = lt
      by_side (inr le) = absurd (no_some d (sym nothing ∙ ap view (sym (get_or_past threads t no_thread le)) ∙ is))

  item_refill : (t : ℕ) → t < 256 → item_of t ≡ Some (item.Refill t)
  item_refill t lt = let a : nat_lt t 256 ≡ true = grind arith in rw a refl

  item_start : (t : ℕ) → t < 256 → item_of (256 + t) ≡ Some (item.Start t)
  item_start t lt =
      let a : nat_lt (256 + t) 256 ≡ false = grind arith in
      let b : nat_lt (256 + t) 512 ≡ true = grind arith in
      let e : 256 + t - 256 ≡ t = omega arith in
      rw (a, b, e) refl

  item_timeout : (t : ℕ) → t < 256 → item_of (512 + t) ≡ Some (item.Timeout t)
  item_timeout t lt =
      let a : nat_lt (512 + t) 256 ≡ false = grind arith in
      let b : nat_lt (512 + t) 512 ≡ false = grind arith in
      let c : nat_lt (512 + t) 768 ≡ true = grind arith in
      let e : 512 + t - 512 ≡ t = omega arith in
      rw (a, b, c, e) refl

  refill_is : (t : ℕ) → t < 256 → IsFirstDue now dues t → item_of t ≡ next_item m
  refill_is t lt h =
      let is = sym (armed.refills t lt) ∙ h.due.1 in
      let found = first_pass (λ (n : ℕ). has_come (refill_due m n) now) (length threads) 0 t (omega arith) (let there : t < length threads = is_thread refill_of t h.due.0 refl is in omega (arith, there))
      (come now h.due.0 (refill_of (thread_in threads t)) is h.due.2)
      (λ u le less. to_come now (refill_of (thread_in threads u)) (λ d e. h.first u d less (armed.refills u (omega (arith, less, lt)) ∙ e))) in
      item_refill t lt ∙ sym (head_is (of refill_due) (of start_due) (of timeout_due) expired (t ∷ found.0) (of start_due) (of timeout_due) expired found.1 refl refl refl)

  start_is : (t : ℕ) → t < 256 → IsFirstDue now dues (256 + t) → item_of (256 + t) ≡ next_item m
  start_is t lt h =
      let is = sym (armed.starts t lt) ∙ h.due.1 in
      let found = first_pass (λ (n : ℕ). has_come (start_due m n) now) (length threads) 0 t (omega arith) (let there : t < length threads = is_thread start_of t h.due.0 refl is in omega (arith, there))
      (come now h.due.0 (start_in (thread_in threads t).status) (is_in_time (start_in (thread_in threads t).status) h.due.0 is) h.due.2)
      (λ u le less. to_come now (start_in (thread_in threads u).status) (later_to_come now (start_in (thread_in threads u).status) small
      (λ d e. h.first (256 + u) d (omega (arith, less)) (armed.starts u (omega (arith, less, lt)) ∙ e)))) in
      item_start t lt ∙ sym (head_is (of refill_due) (of start_due) (of timeout_due) expired [] (t ∷ found.0) (of timeout_due) expired
      (no_refill (λ u below d e. h.first u d (omega (arith, below)) e)) found.1 refl refl)

  timeout_is : (t : ℕ) → t < 256 → IsFirstDue now dues (512 + t) → item_of (512 + t) ≡ next_item m
  timeout_is t lt h =
      let is = sym (armed.timeouts t lt) ∙ h.due.1 in
      let found = first_pass (λ (n : ℕ). has_come (timeout_due m n) now) (length threads) 0 t (omega arith) (let there : t < length threads = is_thread timeout_of t h.due.0 refl is in omega (arith, there))
      (come now h.due.0 (timeout_of (thread_in threads t)) is h.due.2)
      (λ u le less. to_come now (timeout_of (thread_in threads u)) (λ d e. h.first (512 + u) d (omega (arith, less)) (armed.timeouts u (omega (arith, less, lt)) ∙ e))) in
      item_timeout t lt ∙ sym (head_is (of refill_due) (of start_due) (of timeout_due) expired [] [] (t ∷ found.0) expired
      (no_refill (λ u below d e. h.first u d (omega (arith, below)) e)) (no_start (λ u below d e. h.first (256 + u) d (omega (arith, below)) e)) found.1 refl)

  -- and of a timer, where it is none of a thread
  pub is_timer : (k d : ℕ) → (timer_in timers k).due ≡ Some d → k < length timers
  is_timer k d is = by_side (lt_or k (length timers))
    where
      by_side : (k < length timers) ⊎ (length timers ≤ k) → k < length timers
      by_side (inl lt) = lt
      by_side (inr le) = absurd (no_some d (sym (ap (λ (x : Timer). x.due) (get_or_past timers k no_timer le)) ∙ is))

  item_timer : (k : ℕ) → k < 256 → item_of (768 + k) ≡ Some (item.Timer k)
  item_timer k lt =
      let a : nat_lt (768 + k) 256 ≡ false = grind arith in
      let b : nat_lt (768 + k) 512 ≡ false = grind arith in
      let c : nat_lt (768 + k) 768 ≡ false = grind arith in
      let d : nat_lt (768 + k) 1024 ≡ true = grind arith in
      let e : 768 + k - 768 ≡ k = omega arith in
      rw (a, b, c, d, e) refl

  expiry_is : (k : ℕ) → k < 256 → IsFirstDue now dues (768 + k) → item_of (768 + k) ≡ next_item m
  expiry_is k lt h =
      let is = sym (armed.expiries k lt) ∙ h.due.1 in
      let found = first_pass (λ (n : ℕ). has_come (timer_due m n) now) (length timers) 0 k (omega arith) (let there : k < length timers = is_timer k h.due.0 is in omega (arith, there))
      (come now h.due.0 (timer_in timers k).due is h.due.2)
      (λ u le less. to_come now (timer_in timers u).due (λ d e. h.first (768 + u) d (omega (arith, less)) (armed.expiries u (omega (arith, less, lt)) ∙ e))) in
      item_timer k lt ∙ sym (head_is (of refill_due) (of start_due) (of timeout_due) expired [] [] [] (k ∷ found.0)
      (no_refill (λ u below d e. h.first u d (omega (arith, below)) e)) (no_start (λ u below d e. h.first (256 + u) d (omega (arith, below)) e))
      (no_timeout (λ u below d e. h.first (512 + u) d (omega (arith, below)) e)) found.1)

  -- the first number that is due
  pub first_is : (n : ℕ) → IsFirstDue now dues n → item_of n ≡ next_item m
  first_is n h = by_256 (lt_or n 256)
    where
      moved : (k : ℕ) → k ≤ n → k + (n - k) ≡ n
      moved k le = omega (arith, le)

      by_768 : (n < 768) ⊎ (768 ≤ n) → 512 ≤ n → item_of n ≡ next_item m
      by_768 (inl lt) le = subst (λ (i : ℕ). item_of i ≡ next_item m) (moved 512 le) (timeout_is (n - 512) (omega (arith, lt, le)) (subst (λ (i : ℕ). IsFirstDue now dues i) (sym (moved 512 le)) h))
      by_768 (inr past) le =
          let inside = h.inside in
          subst (λ (i : ℕ). item_of i ≡ next_item m) (moved 768 past)
          (expiry_is (n - 768) (omega (arith, past, inside, armed.numbers)) (subst (λ (i : ℕ). IsFirstDue now dues i) (sym (moved 768 past)) h))

      by_512 : (n < 512) ⊎ (512 ≤ n) → 256 ≤ n → item_of n ≡ next_item m
      by_512 (inl lt) le = subst (λ (i : ℕ). item_of i ≡ next_item m) (moved 256 le) (start_is (n - 256) (omega (arith, lt, le)) (subst (λ (i : ℕ). IsFirstDue now dues i) (sym (moved 256 le)) h))
      by_512 (inr le) past = by_768 (lt_or n 768) le

      by_256 : (n < 256) ⊎ (256 ≤ n) → item_of n ≡ next_item m
      by_256 (inl lt) = refill_is n lt h
      by_256 (inr le) = by_512 (lt_or n 512) le
