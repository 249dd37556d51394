-- Walks along all records, by age.
use Rattle.std.specs.Prelude.{filter, not}
use Rattle.std.specs.List.{AllByRecursion, list_any}
use Rattle.std.proofs.Common.{◌≡◌, ℕ, suc, ◌+◌, ◌<◌, ◌≤◌, ◌==◌, ◌||◌, Bool, true, false, Some, List, [], ◌∷◌, ◌++◌, length, if◌then◌else◌, refl, sym, ap, ap₂, subst, ◌∙◌, arith}
use Rattle.std.proofs.lemmas.Bool.Decides.{nat_tests}
use Rattle.std.proofs.lemmas.List.Elements.{filter-append}
use Rattle.rules_machine.specs.Lists.{is, is as is_of}
use Rattle.rules_machine.specs.Lives.{without_target}
use Rattle.rules_machine.specs.State.{SignalRecord}
use Rattle.parts_arrivals.specs.Arrivals.{Arrival, Arrivals, AreDistinct, has_come, next_in_order, oldest, without_node}
use Rattle.kernel_signals.specs.Ages.{before, before_node, kept_for, stays}
use Rattle.kernel_signals.specs.Timed.{AreTimed}
use Rattle.kernel_signals.specs.Kept.{AreKept, AreRanked, AreRising, counted_in, record_at, record_of, records_of, weight_of}
use Rattle.kernel_signals.specs.Walks.{rest_of, since}
use Rattle.kernel_signals.proofs.Keeping.{count_with, few_counted, records_back}
use Rattle.kernel_signals.proofs.Walking.{Split, later_rest, oldest_in, split_at}

module _ (p : SignalRecord → Bool) (records : List SignalRecord) (order : List Arrival) (n : ℕ) (came : has_come n order ≡ true) (d : AreDistinct order) where
  abbrev s : Split n order
  s = split_at n order came d

  here_is : record_of records s.first ≡ record_at records n
  here_is = ap (record_at records) s.is.node

  any_from : list_any p (records_of records (since n order)) ≡ (p (record_at records n) || list_any p (records_of records s.tail))
  any_from = ap (λ (o : List Arrival). list_any p (records_of records o)) s.is.from ∙ ap (λ (r : SignalRecord). p r || list_any p (records_of records s.tail)) here_is

  pub any_here : p (record_at records n) ≡ true → list_any p (records_of records (since n order)) ≡ true
  any_here e = any_from ∙ ap (λ b. b || list_any p (records_of records s.tail)) e

  pub rest_after : rest_of (next_in_order n order) order ≡ s.tail
  rest_after = ap (λ o. rest_of o order) s.is.after ∙ later_rest order n s

  pub any_later : p (record_at records n) ≡ false → list_any p (records_of records (rest_of (next_in_order n order) order)) ≡ list_any p (records_of records (since n order))
  any_later e = ap (λ (o : List Arrival). list_any p (records_of records o)) rest_after ∙ sym (any_from ∙ ap (λ b. b || list_any p (records_of records s.tail)) e)

  pub after_in : (m : ℕ) → next_in_order n order ≡ Some m → has_come m order ≡ true
  after_in m e = (s.is.later m (oldest_in m s.tail (sym s.is.after ∙ e))).1

  pub after_shorter : length (rest_of (next_in_order n order) order) < length (since n order)
  after_shorter = omega (arith, ap length rest_after, ap length s.is.from)

-- ---- a walk on which nodes leave

not_before : (n : ℕ) (order : List Arrival) → has_come n (before_node n order) ≡ false
not_before n [] = refl
not_before n (a ∷ order) = by_test (a.node == n) refl (not_before n order)
  where
    by_test : (b : Bool) → (a.node == n) ≡ b → has_come n (before_node n order) ≡ false → has_come n (if b then [] else a ∷ before_node n order) ≡ false
    by_test true e later = refl
    by_test false e later = ap (λ c. if c then true else has_come n (before_node n order)) e ∙ later

cut_if : (b : Bool) (node n : ℕ) (came : Bool) → (node == n) ≡ b → (if b then true else came) ≡ false → (b ≡ false) × (came ≡ false)
cut_if true node n came e h = cc
cut_if false node n came e h = (refl, h)

off_first : (n : ℕ) (a : Arrival) (xs : List Arrival) → has_come n (a ∷ xs) ≡ false → ((a.node == n) ≡ false) × (has_come n xs ≡ false)
off_first n a xs h = cut_if (a.node == n) a.node n (has_come n xs) refl h

not_kept : (t : ℕ) (records : List SignalRecord) (n : ℕ) (xs : List Arrival) → has_come n xs ≡ false → has_come n (kept_for t records xs) ≡ false
not_kept t records n [] h = refl
not_kept t records n (a ∷ xs) h =
    let off = off_first n a xs h in by_test (stays t records a) off.0 (not_kept t records n xs off.1)
  where
    by_test : (b : Bool) → (a.node == n) ≡ false → has_come n (kept_for t records xs) ≡ false → has_come n (if b then a ∷ kept_for t records xs else kept_for t records xs) ≡ false
    by_test true other later = ap (λ c. if c then true else has_come n (kept_for t records xs)) other ∙ later
    by_test false other later = later

module _ (n : ℕ) (a : Arrival) (tail : List Arrival) (node : (a.node == n) ≡ true) where
  cut_next : (xs : List Arrival) → has_come n xs ≡ false → next_in_order n (xs ++ a ∷ tail) ≡ oldest tail
  cut_next [] h = ap (λ c. if c then oldest tail else next_in_order n tail) node
  cut_next (x ∷ xs) h =
      let off = off_first n x xs h in
      ap (λ c. if c then oldest (xs ++ a ∷ tail) else next_in_order n (xs ++ a ∷ tail)) off.0 ∙ cut_next xs off.1

  cut_out : (xs : List Arrival) → has_come n xs ≡ false → without_node n (xs ++ a ∷ tail) ≡ xs ++ tail
  cut_out [] h = ap (λ c. if c then tail else a ∷ without_node n tail) node
  cut_out (x ∷ xs) h =
      let off = off_first n x xs h in
      ap (λ c. if c then xs ++ a ∷ tail else x ∷ without_node n (xs ++ a ∷ tail)) off.0 ∙ ap (λ (ys : List Arrival). x ∷ ys) (cut_out xs off.1)

  cut_in : (xs : List Arrival) → has_come n (xs ++ a ∷ tail) ≡ true
  cut_in [] = ap (λ c. if c then true else has_come n tail) node
  cut_in (x ∷ xs) = by_test (x.node == n) (cut_in xs)
    where
      by_test : (b : Bool) → has_come n (xs ++ a ∷ tail) ≡ true → (if b then true else has_come n (xs ++ a ∷ tail)) ≡ true
      by_test true h = refl
      by_test false h = h

cut_back : (a : Arrival) (tail xs : List Arrival) → xs ++ a ∷ tail ≡ (xs ++ a ∷ []) ++ tail
cut_back a tail [] = refl
cut_back a tail (x ∷ xs) = ap (λ (ys : List Arrival). x ∷ ys) (cut_back a tail xs)

no_back : (xs : List Arrival) → xs ++ [] ≡ xs
no_back [] = refl
no_back (x ∷ xs) = ap (λ (ys : List Arrival). x ∷ ys) (no_back xs)

length_before : (n : ℕ) (order : List Arrival) → length (before_node n order) ≤ length order
length_before n [] = omega arith
length_before n (a ∷ order) = by_test (a.node == n) (length_before n order)
  where
    by_test : (b : Bool) → length (before_node n order) ≤ length order → length (if b then [] else a ∷ before_node n order) ≤ suc (length order)
    by_test true l = omega arith
    by_test false l = omega (arith, l)

length_kept : (t : ℕ) (records : List SignalRecord) (xs : List Arrival) → length (kept_for t records xs) ≤ length xs
length_kept t records [] = omega arith
length_kept t records (a ∷ xs) = by_test (stays t records a) (length_kept t records xs)
  where
    by_test : (b : Bool) → length (kept_for t records xs) ≤ length xs → length (if b then a ∷ kept_for t records xs else kept_for t records xs) ≤ suc (length xs)
    by_test true l = omega (arith, l)
    by_test false l = omega (arith, l)

module _ (t : ℕ) (records : List SignalRecord) (order : List Arrival) (n : ℕ) (came : has_come n order ≡ true) (d : AreDistinct order) where
  abbrev at_it : Split n order
  at_it = split_at n order came d

  abbrev front : List Arrival
  front = kept_for t records (before_node n order)

  node_is : (at_it.first.node == n) ≡ true
  node_is = let e = at_it.is.node in grind (arith, nat_tests, e)

  fresh : has_come n (kept_for t records (before_node n order)) ≡ false
  fresh = not_kept t records n (before_node n order) (not_before n order)

  from : kept_for t records (before_node n order) ++ since n order ≡ kept_for t records (before_node n order) ++ at_it.first ∷ at_it.tail
  from = ap (λ (ys : List Arrival). kept_for t records (before_node n order) ++ ys) at_it.is.from

  pub next_same : next_in_order n (kept_for t records (before_node n order) ++ since n order) ≡ next_in_order n order
  next_same = ap (next_in_order n) from ∙ cut_next n at_it.first at_it.tail node_is (kept_for t records (before_node n order)) fresh ∙ sym at_it.is.after

  pub still_in : has_come n (kept_for t records (before_node n order) ++ since n order) ≡ true
  still_in = ap (has_come n) from ∙ cut_in n at_it.first at_it.tail node_is (kept_for t records (before_node n order))

  target_is : is (record_of records at_it.first).target t ≡ is (record_at records n).target t
  target_is = ap (λ k. is (record_at records k).target t) at_it.is.node

  kept_next : kept_for t records (before (next_in_order n order) order) ≡ kept_for t records (before_node n order) ++ kept_for t records (at_it.first ∷ [])
  kept_next =
      ap (λ o. kept_for t records (before o order)) at_it.is.after ∙ ap (kept_for t records) at_it.is.next_before
      ∙ filter-append (stays t records) (before_node n order) (at_it.first ∷ [])

  rest_next : rest_of (next_in_order n order) order ≡ at_it.tail
  rest_next = ap (λ o. rest_of o order) at_it.is.after ∙ later_rest order n at_it

  gone_one : is (record_at records n).target t ≡ true → kept_for t records (at_it.first ∷ []) ≡ []
  gone_one e = ap (λ b. if not b then at_it.first ∷ [] else []) (target_is ∙ e)

  kept_one : is (record_at records n).target t ≡ false → kept_for t records (at_it.first ∷ []) ≡ at_it.first ∷ []
  kept_one e = ap (λ b. if not b then at_it.first ∷ [] else []) (target_is ∙ e)

  pub kept_gone : is (record_at records n).target t ≡ true → kept_for t records (before (next_in_order n order) order) ≡ kept_for t records (before_node n order)
  kept_gone e = kept_next ∙ ap (λ (ys : List Arrival). kept_for t records (before_node n order) ++ ys) (gone_one e) ∙ no_back (kept_for t records (before_node n order))

  kept_more : is (record_at records n).target t ≡ false → kept_for t records (before (next_in_order n order) order) ≡ kept_for t records (before_node n order) ++ at_it.first ∷ []
  kept_more e = kept_next ∙ ap (λ (ys : List Arrival). kept_for t records (before_node n order) ++ ys) (kept_one e)

  pub dropped : is (record_at records n).target t ≡ true →
      without_node n (kept_for t records (before_node n order) ++ since n order) ≡ kept_for t records (before (next_in_order n order) order) ++ rest_of (next_in_order n order) order
  dropped e =
      ap (without_node n) from ∙ cut_out n at_it.first at_it.tail node_is (kept_for t records (before_node n order)) fresh
      ∙ sym (ap₂ (λ (xs ys : List Arrival). xs ++ ys) (kept_gone e) rest_next)

  pub stayed : is (record_at records n).target t ≡ false →
      kept_for t records (before_node n order) ++ since n order ≡ kept_for t records (before (next_in_order n order) order) ++ rest_of (next_in_order n order) order
  stayed e =
      from ∙ cut_back at_it.first at_it.tail (kept_for t records (before_node n order))
      ∙ sym (ap₂ (λ (xs ys : List Arrival). xs ++ ys) (kept_more e) rest_next)

  pub counted_more : is (record_at records n).target t ≡ false →
      counted_in (records_of records (kept_for t records (before (next_in_order n order) order))) ≡ counted_in (records_of records (kept_for t records (before_node n order))) + weight_of (record_at records n).code
  counted_more e =
      ap (λ (xs : List Arrival). counted_in (records_of records xs)) (kept_more e)
      ∙ ap counted_in (records_back records at_it.first (kept_for t records (before_node n order)))
      ∙ count_with (records_of records (kept_for t records (before_node n order))) (record_of records at_it.first)
      ∙ ap (λ k. counted_in (records_of records (kept_for t records (before_node n order))) + weight_of (record_at records k).code) at_it.is.node

  pub few_before : counted_in (records_of records (kept_for t records (before_node n order))) ≤ length order
  few_before = omega (arith, few_counted records (kept_for t records (before_node n order)), length_kept t records (before_node n order), length_before n order)

-- ---- what stays is kept

kept_if : {X : Type 0} (P : X → Type 0) (x : X) (xs : List X) (b : Bool) → P x → AllByRecursion P xs → AllByRecursion P (if b then x ∷ xs else xs)
kept_if P x xs true p all = (p, all)
kept_if P x xs false p all = all

all_filter : {X : Type 0} (P : X → Type 0) (q : X → Bool) (xs : List X) → AllByRecursion P xs → AllByRecursion P (filter q xs)
all_filter P q [] all = tt
all_filter P q (x ∷ xs) all = kept_if P x (filter q xs) (q x) all.0 (all_filter P q xs all.1)

rising_if : (q : SignalRecord → Bool) (r : SignalRecord) (rs : List SignalRecord) (b : Bool) → AllByRecursion (λ (s : SignalRecord). r.serial < s.serial) (filter q rs) → AreRising (filter q rs) → AreRising (if b then r ∷ filter q rs else filter q rs)
rising_if q r rs true above rising = (above, rising)
rising_if q r rs false above rising = rising

rising_filter : (q : SignalRecord → Bool) (rs : List SignalRecord) → AreRising rs → AreRising (filter q rs)
rising_filter q [] rising = tt
rising_filter q (r ∷ rs) rising = rising_if q r rs (q r) (all_filter (λ (s : SignalRecord). r.serial < s.serial) q rs rising.0) (rising_filter q rs rising.1)

without_if : (t : ℕ) (records : List SignalRecord) (a : Arrival) (order : List Arrival) (b : Bool) → records_of records (kept_for t records order) ≡ without_target t (records_of records order) →
    records_of records (if b then a ∷ kept_for t records order else kept_for t records order) ≡ (if b then record_of records a ∷ without_target t (records_of records order) else without_target t (records_of records order))
without_if t records a order true e = ap (λ (rs : List SignalRecord). record_of records a ∷ rs) e
without_if t records a order false e = e

pub records_kept : (t : ℕ) (records : List SignalRecord) (order : List Arrival) → records_of records (kept_for t records order) ≡ without_target t (records_of records order)
records_kept t records [] = refl
records_kept t records (a ∷ order) = without_if t records a order (stays t records a) (records_kept t records order)

pub kept_stay : (t counted counted' : ℕ) (records : List SignalRecord) (arrivals arrivals' : Arrivals) (timers timers' : List ℕ) → AreKept arrivals records counted timers → arrivals' ≡ record arrivals { order = kept_for t records arrivals.order } →
    counted' ≡ counted_in (records_of records arrivals'.order) → length timers' ≡ 256 → AreTimed timers' (records_of records arrivals'.order) → AreKept arrivals' records counted' timers'
kept_stay t counted counted' records arrivals arrivals' timers timers' kept is e long timed =
    let seen : records_of records arrivals'.order ≡ without_target t (records_of records arrivals.order) = ap (λ (a : Arrivals). records_of records a.order) is ∙ records_kept t records arrivals.order in
    record {
      nodes = ap (λ (a : Arrivals). a.nodes) is ∙ kept.nodes;
      known = kept.known;
      ranked = subst (λ (a : Arrivals). AreRanked records a.order) (sym is) (all_filter (λ (a : Arrival). (record_of records a).signal ≡ a.rank) (stays t records) arrivals.order kept.ranked);
      rising = subst AreRising (sym seen) (rising_filter (λ (r : SignalRecord). not (is_of r.target t)) (records_of records arrivals.order) kept.rising);
      signals = subst (λ (rs : List SignalRecord). AllByRecursion (λ (r : SignalRecord). r.signal < 32) rs) (sym seen)
          (all_filter (λ (r : SignalRecord). r.signal < 32) (λ (r : SignalRecord). not (is_of r.target t)) (records_of records arrivals.order) kept.signals);
      tallied = e;
      long = long;
      timed = timed;
    }
