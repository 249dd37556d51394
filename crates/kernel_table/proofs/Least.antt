-- What the wheel tells of the machine: its least due tick.
use Rattle.std.proofs.Common.{◌≡◌, ◌<◌, ◌≤◌, ◌+◌, ◌-◌, ◌∙◌, ◌⊎◌, ℕ, zero, suc, List, [], ◌∷◌, ◌++◌, Bool, true, false, None, Option, Some, ap, arith, inl, inr, length, nat_lt, refl, sym}
use Rattle.std.specs.Prelude.{filter_map, if◌then◌else◌, option_map}
use Rattle.std.specs.List.{range_with_len}
use Rattle.std.proofs.lemmas.Bool.Decides.{eqb_tells}
use Rattle.std.proofs.lemmas.List.{get_or_past}
use Rattle.rules_bodies.specs.declared.cursor.Cursor.{Cursor}
use Rattle.words_numbers.specs.declared.item.Item.{Item}
use Rattle.words_numbers.specs.declared.item.Item.TheVariants as item
use Rattle.rules_machine.specs.Lists.{numbers}
use Rattle.rules_machine.specs.Agenda.{Coming, agenda, coming_at, coming_of}
use Rattle.rules_machine.specs.DueItems.{refill_due, start_due, start_in, timeout_due, timer_due}
use Rattle.rules_machine.specs.State.{Machine, Mutex, Thread, Timer}
use Rattle.rules_machine.specs.Threads.{thread_in, thread_numbers}
use Rattle.kernel_timers.specs.Timers.{timer_in}
use Rattle.parts_wheel.specs.Dues.{IsLeastDue, NoneIsArmed, due_of, earlier}
use Rattle.kernel_table.specs.Table.{machine_with}
use Rattle.kernel_table.specs.Tied.{AreArmed}
use Rattle.kernel_table.specs.Times.{in_time, last_instant, least_due, refill_of, start_of, timeout_of}
use Rattle.kernel_table.proofs.Coming.{is_in_time, is_thread, is_timer, kept_in_time, lt_or, no_some, past_time, some_of}

abbrev pub IsAfter : ℕ → Option ℕ → Type 0
IsAfter x o = (d : ℕ) → o ≡ Some d → x ≤ d

abbrev pub AreAfter : ℕ → List Coming → Type 0
AreAfter x [] = Unit {0}
AreAfter x (c ∷ comings) = (x ≤ c.due) × AreAfter x comings

abbrev pub Reaches : ℕ → List Coming → Type 0
Reaches x [] = ⊥
Reaches x (c ∷ comings) = (c.due ≤ x) ⊎ Reaches x comings

abbrev cons_of : Option Coming → List Coming → List Coming
cons_of None comings = comings
cons_of (Some c) comings = c ∷ comings

earlier_after : (x a : ℕ) (o : Option ℕ) → x ≤ a → IsAfter x o → IsAfter x (earlier (Some a) o)
earlier_after x a None le h d e = let same : a ≡ d = some_of (Some a) a d refl e in omega (arith, le, same)
earlier_after x a (Some b) le h d e = by_test (nat_lt b a) e
  where
    by_test : (t : Bool) → (if t then Some b else Some a) ≡ Some d → x ≤ d
    by_test true g = h d g
    by_test false g = let same : a ≡ d = some_of (Some a) a d refl g in omega (arith, le, same)

least_after : (x : ℕ) (cs : List Coming) → AreAfter x cs → IsAfter x (least_due cs)
least_after x [] h = λ d e. absurd (no_some d e)
least_after x (c ∷ cs) h = earlier_after x c.due (least_due cs) h.0 (least_after x cs h.1)

earlier_first : (a : ℕ) (o : Option ℕ) → (y : ℕ) × (earlier (Some a) o ≡ Some y) × (y ≤ a)
earlier_first a None = (a, refl, omega arith)
earlier_first a (Some b) = by_test (nat_lt b a) refl
  where
    by_test : (t : Bool) → nat_lt b a ≡ t → (y : ℕ) × ((if t then Some b else Some a) ≡ Some y) × (y ≤ a)
    by_test true e = (b, refl, grind arith)
    by_test false e = (a, refl, omega arith)

earlier_second : (a b : ℕ) → (y : ℕ) × (earlier (Some a) (Some b) ≡ Some y) × (y ≤ b)
earlier_second a b = by_test (nat_lt b a) refl
  where
    by_test : (t : Bool) → nat_lt b a ≡ t → (y : ℕ) × ((if t then Some b else Some a) ≡ Some y) × (y ≤ b)
    by_test true e = (b, refl, omega arith)
    by_test false e = (a, refl, grind arith)

least_reached : (x : ℕ) (cs : List Coming) → Reaches x cs → (y : ℕ) × (least_due cs ≡ Some y) × (y ≤ x)
least_reached x [] h = absurd h
least_reached x (c ∷ cs) (inl le) = let r = earlier_first c.due (least_due cs) in (r.0, r.1, omega (arith, r.2, le))
least_reached x (c ∷ cs) (inr h) =
    let rest = least_reached x cs h in
    let r = earlier_second c.due rest.0 in
    (r.0, ap (earlier (Some c.due)) rest.1 ∙ r.1, omega (arith, r.2, rest.2))

after_append : (x : ℕ) (cs ds : List Coming) → AreAfter x cs → AreAfter x ds → AreAfter x (cs ++ ds)
after_append x [] ds h k = k
after_append x (c ∷ cs) ds h k = (h.0, after_append x cs ds h.1 k)

reaches_first : (x : ℕ) (cs ds : List Coming) → Reaches x cs → Reaches x (cs ++ ds)
reaches_first x [] ds h = absurd h
reaches_first x (c ∷ cs) ds (inl le) = inl le
reaches_first x (c ∷ cs) ds (inr h) = inr (reaches_first x cs ds h)

reaches_second : (x : ℕ) (cs ds : List Coming) → Reaches x ds → Reaches x (cs ++ ds)
reaches_second x [] ds h = h
reaches_second x (c ∷ cs) ds h = inr (reaches_second x cs ds h)

-- ---- by number

module _ (kind : ℕ → Item) (due : ℕ → Option ℕ) where
  abbrev those : List ℕ → List Coming
  those ns = filter_map (λ (n : ℕ). option_map (coming_at (kind n)) (due n)) ns

  cons_is : (n : ℕ) (ns : List ℕ) (o : Option ℕ) → due n ≡ o → those (n ∷ ns) ≡ cons_of (option_map (coming_at (kind n)) o) (those ns)
  cons_is n ns None e = rw e refl
  cons_is n ns (Some d) e = rw e refl

  after_cons : (x n : ℕ) (cs : List Coming) (o : Option ℕ) → IsAfter x o → AreAfter x cs → AreAfter x (cons_of (option_map (coming_at (kind n)) o) cs)
  after_cons x n cs None h k = k
  after_cons x n cs (Some d) h k = (h d refl, k)

  all_after : (x n a : ℕ) → ((u : ℕ) → a ≤ u → u < a + n → IsAfter x (due u)) → AreAfter x (those (range_with_len a n))
  all_after x zero a h = tt
  all_after x (suc n) a h = rw (cons_is a (range_with_len (a + 1) n) (due a) refl)
      (after_cons x a (those (range_with_len (a + 1) n)) (due a) (h a (omega arith) (omega arith)) (all_after x n (a + 1) (λ u le lt. h u (omega (arith, le)) (omega (arith, lt)))))

  reach_cons : (x n : ℕ) (cs : List Coming) (o : Option ℕ) → Reaches x cs → Reaches x (cons_of (option_map (coming_at (kind n)) o) cs)
  reach_cons x n cs None k = k
  reach_cons x n cs (Some d) k = inr k

  one_reached : (x n a t : ℕ) → a ≤ t → t < a + n → due t ≡ Some x → Reaches x (those (range_with_len a n))
  one_reached x zero a t le lt is = absurd (omega (arith, le, lt))
  one_reached x (suc n) a t le lt is = elim (eqb_tells a t) [
    | inl same ↦ rw (cons_is a (range_with_len (a + 1) n) (Some x) (ap due same.1 ∙ is)) (inl (omega arith))
    | inr other ↦ rw (cons_is a (range_with_len (a + 1) n) (due a) refl)
        (reach_cons x a (those (range_with_len (a + 1) n)) (due a) (one_reached x n (a + 1) t (omega (arith, le, other.1)) (omega (arith, lt)) is))
  ]

-- ---- what is to come of the threads and the timers

module _ (threads : List (Thread Cursor)) (mutexes : List Mutex) (timers : List Timer) (dues : List (Option ℕ)) (few : length threads ≤ 256) (armed : AreArmed threads timers dues) where
  abbrev whole : Machine Cursor
  whole = machine_with threads mutexes timers

  abbrev with_kind : (ℕ → Item) → (Machine Cursor → ℕ → Option ℕ) → List Coming
  with_kind kind due = coming_of kind due (thread_numbers whole) whole

  abbrev refills_to_come : List Coming
  refills_to_come = with_kind item.Refill refill_due

  abbrev starts_to_come : List Coming
  starts_to_come = with_kind item.Start start_due

  abbrev timeouts_to_come : List Coming
  timeouts_to_come = with_kind item.Timeout timeout_due

  abbrev expiries_to_come : List Coming
  expiries_to_come = coming_of item.Timer timer_due (numbers timers) whole

  abbrev of_threads : List Coming
  of_threads = refills_to_come ++ starts_to_come ++ timeouts_to_come

  few_there : (u : ℕ) → u < 0 + length timers → u < 256
  few_there u lt = let most = armed.few_timers in omega (arith, lt, most)

  all_come_after : (x : ℕ) → ((u : ℕ) → u < 256 → IsAfter x (refill_of (thread_in threads u))) → ((u : ℕ) → u < 256 → IsAfter x (start_in (thread_in threads u).status)) →
      ((u : ℕ) → u < 256 → IsAfter x (timeout_of (thread_in threads u))) → ((k : ℕ) → k < 256 → IsAfter x (timer_in timers k).due) → AreAfter x (agenda whole)
  all_come_after x refills starts timeouts expiries =
      after_append x of_threads expiries_to_come (after_append x (refills_to_come ++ starts_to_come) timeouts_to_come (after_append x refills_to_come starts_to_come
      (all_after item.Refill (refill_due whole) x (length threads) 0 (λ u le lt. refills u (omega (arith, lt, few))))
      (all_after item.Start (start_due whole) x (length threads) 0 (λ u le lt. starts u (omega (arith, lt, few)))))
      (all_after item.Timeout (timeout_due whole) x (length threads) 0 (λ u le lt. timeouts u (omega (arith, lt, few)))))
      (all_after item.Timer (timer_due whole) x (length timers) 0 (λ u le lt. expiries u (few_there u lt)))

  none_in_time : (o : Option ℕ) → IsAfter (suc last_instant) o → None ≡ in_time o
  none_in_time None h = refl
  none_in_time (Some at) h = let lt = h at refl in sym (past_time at (omega (arith, lt)))

  after_last : (o : Option ℕ) → in_time o ≡ None → IsAfter (suc last_instant) o
  after_last o none d e = by_side (lt_or last_instant d)
    where
      by_side : (last_instant < d) ⊎ (d ≤ last_instant) → suc last_instant ≤ d
      by_side (inl lt) = omega (arith, lt)
      by_side (inr le) = absurd (no_some d (sym none ∙ ap in_time e ∙ kept_in_time d le))

  -- where nothing is armed
  pub nothing_comes : NoneIsArmed dues → None ≡ in_time (least_due (agenda whole))
  nothing_comes none = none_in_time (least_due (agenda whole)) (least_after (suc last_instant) (agenda whole) (all_come_after (suc last_instant)
      (λ u lt d e. absurd (no_some d (sym (none u) ∙ armed.refills u lt ∙ e)))
      (λ u lt. after_last (start_in (thread_in threads u).status) (sym (armed.starts u lt) ∙ none (256 + u)))
      (λ u lt d e. absurd (no_some d (sym (none (512 + u)) ∙ armed.timeouts u lt ∙ e)))
      (λ u lt d e. absurd (no_some d (sym (none (768 + u)) ∙ armed.expiries u lt ∙ e)))))

  module _ (tick : ℕ) (small : tick ≤ last_instant) (h : IsLeastDue dues tick) where
    start_after : (u : ℕ) → u < 256 → IsAfter tick (start_in (thread_in threads u).status)
    start_after u lt d e = by_side (lt_or last_instant d)
      where
        by_side : (last_instant < d) ⊎ (d ≤ last_instant) → tick ≤ d
        by_side (inl past) = omega (arith, past, small)
        by_side (inr le) = h.least (256 + u) d (armed.starts u lt ∙ ap in_time e ∙ kept_in_time d le)

    in_refills : (t : ℕ) → t < 256 → due_of t dues ≡ Some tick → Reaches tick (agenda whole)
    in_refills t lt due =
        let is = sym (armed.refills t lt) ∙ due in
        let there : t < length threads = is_thread threads mutexes timers 0 dues few armed (omega arith) refill_of t tick refl is in
        reaches_first tick of_threads expiries_to_come (reaches_first tick (refills_to_come ++ starts_to_come) timeouts_to_come
        (reaches_first tick refills_to_come starts_to_come (one_reached item.Refill (refill_due whole) tick (length threads) 0 t (omega arith) (omega (arith, there)) is)))

    in_starts : (t : ℕ) → t < 256 → due_of (256 + t) dues ≡ Some tick → Reaches tick (agenda whole)
    in_starts t lt due =
        let is = sym (armed.starts t lt) ∙ due in
        let there : t < length threads = is_thread threads mutexes timers 0 dues few armed (omega arith) start_of t tick refl is in
        reaches_first tick of_threads expiries_to_come (reaches_first tick (refills_to_come ++ starts_to_come) timeouts_to_come
        (reaches_second tick refills_to_come starts_to_come
        (one_reached item.Start (start_due whole) tick (length threads) 0 t (omega arith) (omega (arith, there)) (is_in_time (start_in (thread_in threads t).status) tick is))))

    in_timeouts : (t : ℕ) → t < 256 → due_of (512 + t) dues ≡ Some tick → Reaches tick (agenda whole)
    in_timeouts t lt due =
        let is = sym (armed.timeouts t lt) ∙ due in
        let there : t < length threads = is_thread threads mutexes timers 0 dues few armed (omega arith) timeout_of t tick refl is in
        reaches_first tick of_threads expiries_to_come (reaches_second tick (refills_to_come ++ starts_to_come) timeouts_to_come
        (one_reached item.Timeout (timeout_due whole) tick (length threads) 0 t (omega arith) (omega (arith, there)) is))

    in_expiries : (k : ℕ) → k < 256 → due_of (768 + k) dues ≡ Some tick → Reaches tick (agenda whole)
    in_expiries k lt due =
        let is = sym (armed.expiries k lt) ∙ due in
        let there : k < length timers = is_timer threads mutexes timers 0 dues few armed (omega arith) k tick is in
        reaches_second tick of_threads expiries_to_come (one_reached item.Timer (timer_due whole) tick (length timers) 0 k (omega arith) (omega (arith, there)) is)

    reached : (i : ℕ) → due_of i dues ≡ Some tick → Reaches tick (agenda whole)
    reached i due = by_256 (lt_or i 256)
      where
        moved : (k : ℕ) → k ≤ i → due_of (k + (i - k)) dues ≡ Some tick
        moved k le = let e : k + (i - k) ≡ i = omega (arith, le) in ap (λ (n : ℕ). due_of n dues) e ∙ due

        by_1024 : (i < 1024) ⊎ (1024 ≤ i) → 768 ≤ i → Reaches tick (agenda whole)
        by_1024 (inl lt) le = in_expiries (i - 768) (omega (arith, lt, le)) (moved 768 le)
        by_1024 (inr past) le = absurd (no_some tick (sym (get_or_past dues i None (omega (arith, past, armed.numbers))) ∙ due))

        by_768 : (i < 768) ⊎ (768 ≤ i) → 512 ≤ i → Reaches tick (agenda whole)
        by_768 (inl lt) le = in_timeouts (i - 512) (omega (arith, lt, le)) (moved 512 le)
        by_768 (inr past) le = by_1024 (lt_or i 1024) past

        by_512 : (i < 512) ⊎ (512 ≤ i) → 256 ≤ i → Reaches tick (agenda whole)
        by_512 (inl lt) le = in_starts (i - 256) (omega (arith, lt, le)) (moved 256 le)
        by_512 (inr past) le = by_768 (lt_or i 768) past

        by_256 : (i < 256) ⊎ (256 ≤ i) → Reaches tick (agenda whole)
        by_256 (inl lt) = in_refills i lt due
        by_256 (inr le) = by_512 (lt_or i 512) le

    -- the least due tick that is armed
    pub least_comes : Some tick ≡ in_time (least_due (agenda whole))
    least_comes =
        let found = least_reached tick (agenda whole) (reached h.holds.0 h.holds.1) in
        let under = least_after tick (agenda whole) (all_come_after tick
        (λ u lt d e. h.least u d (armed.refills u lt ∙ e)) start_after (λ u lt d e. h.least (512 + u) d (armed.timeouts u lt ∙ e))
        (λ u lt d e. h.least (768 + u) d (armed.expiries u lt ∙ e))) found.0 found.1 in
        let same : found.0 ≡ tick = omega (arith, under, found.2) in
        sym (ap in_time (found.1 ∙ ap (λ (n : ℕ). Some n) same) ∙ kept_in_time tick small)
