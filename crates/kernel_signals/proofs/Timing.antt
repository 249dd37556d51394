-- The counts of the timers' records, as one becomes pending and as one is taken.
use Rattle.std.specs.Prelude.{filter, nat_lt, replicate, slice_index_or, slice_set}
use Rattle.std.specs.List.{list_any}
use Rattle.std.proofs.Common.{◌≡◌, ◌≢◌, ◌⊎◌, inl, inr, ℕ, zero, suc, ◌+◌, ◌-◌, ◌<◌, ◌≤◌, ◌==◌, ◌||◌, Bool, true, false, List, [], ◌∷◌, ◌++◌, None, Option, Some, length, if◌then◌else◌, get_or, set, refl, sym, ap, subst, ◌∙◌, arith}
use Rattle.std.proofs.lemmas.Bool.Decides.{nat_tests}
use Rattle.std.proofs.lemmas.List.{get_or-set_same, get_or-set_other}
use Rattle.rules_machine.specs.GoodState.{count_of}
use Rattle.rules_machine.specs.Lists.{is}
use Rattle.rules_machine.specs.State.{SignalRecord}
use Rattle.parts_arrivals.specs.Arrivals.{Arrival, has_come, without_node}
use Rattle.kernel_signals.specs.Kept.{record_at, records_of}
use Rattle.kernel_signals.proofs.Counting.{any_counted, count_back, count_few, count_less, one_if}
use Rattle.kernel_signals.specs.Timed.{AreTimed, HasRoom, count_at, timed_in, with_one, with_one_fewer}

-- ---- one more, or one fewer

at_more : (o : Option ℕ) (counts : List ℕ) (k : ℕ) → k < length counts → count_at (with_one o counts) k ≡ count_at counts k + one_if (is o k)
at_more None counts k l = omega arith
at_more (Some j) counts k l = by_timer (j == k) refl
  where
    by_timer : (b : Bool) → (j == k) ≡ b → count_at (slice_set counts j (count_at counts j + 1)) k ≡ count_at counts k + one_if (j == k)
    by_timer true e =
        let same : j ≡ k = grind (arith, nat_tests, e) in
        subst (λ i. count_at (slice_set counts i (count_at counts i + 1)) k ≡ count_at counts k + one_if (i == k)) (sym same)
        (get_or-set_same counts k (count_at counts k + 1) 0 l ∙ ap (λ b. count_at counts k + one_if b) (sym (let t : (k == k) ≡ true = grind (arith, nat_tests) in t)))
    by_timer false e =
        let other : k ≢ j = grind (arith, nat_tests, e) in
        let kept : count_at (slice_set counts j (count_at counts j + 1)) k ≡ count_at counts k = get_or-set_other counts j k (count_at counts j + 1) 0 other in
        omega (arith, kept, ap one_if e)

at_fewer : (o : Option ℕ) (counts : List ℕ) (k : ℕ) → (is o k ≡ true → 1 ≤ count_at counts k) → k < length counts → count_at (with_one_fewer o counts) k + one_if (is o k) ≡ count_at counts k
at_fewer None counts k one l = omega arith
at_fewer (Some j) counts k one l = by_timer (j == k) refl
  where
    by_timer : (b : Bool) → (j == k) ≡ b → count_at (slice_set counts j (count_at counts j - 1)) k + one_if (j == k) ≡ count_at counts k
    by_timer true e =
        let same : j ≡ k = grind (arith, nat_tests, e) in
        let some : 1 ≤ count_at counts k = one e in
        let set_to : count_at (slice_set counts j (count_at counts j - 1)) k ≡ count_at counts k - 1 =
        subst (λ i. count_at (slice_set counts i (count_at counts i - 1)) k ≡ count_at counts k - 1) (sym same) (get_or-set_same counts k (count_at counts k - 1) 0 l) in
        omega (arith, set_to, some, ap one_if e)
    by_timer false e =
        let other : k ≢ j = grind (arith, nat_tests, e) in
        let kept : count_at (slice_set counts j (count_at counts j - 1)) k ≡ count_at counts k = get_or-set_other counts j k (count_at counts j - 1) 0 other in
        omega (arith, kept, ap one_if e)

length_set : (xs : List ℕ) (i v : ℕ) → length (slice_set xs i v) ≡ length xs
length_set [] i v = refl
length_set (x ∷ xs) zero v = refl
length_set (x ∷ xs) (suc i) v = ap suc (length_set xs i v)

pub long_more : (o : Option ℕ) (counts : List ℕ) → length (with_one o counts) ≡ length counts
long_more None counts = refl
long_more (Some k) counts = length_set counts k (count_at counts k + 1)

pub long_fewer : (o : Option ℕ) (counts : List ℕ) → length (with_one_fewer o counts) ≡ length counts
long_fewer None counts = refl
long_fewer (Some k) counts = length_set counts k (count_at counts k - 1)

pub timed_more : (counts : List ℕ) (pending : List SignalRecord) (v : SignalRecord) → length counts ≡ 256 → AreTimed counts pending → AreTimed (with_one v.timer counts) (pending ++ v ∷ [])
timed_more counts pending v long timed k l =
    omega (arith, at_more v.timer counts k (omega (arith, l, long)), timed k l, count_back (λ (r : SignalRecord). is r.timer k) pending v)

pub timed_fewer : (counts : List ℕ) (records : List SignalRecord) (n : ℕ) (order : List Arrival) → length counts ≡ 256 → has_come n order ≡ true
    → AreTimed counts (records_of records order) → AreTimed (with_one_fewer (record_at records n).timer counts) (records_of records (without_node n order))
timed_fewer counts records n order long came timed k l =
    let less = count_less (λ (r : SignalRecord). is r.timer k) records n order came in
    let fewer = at_fewer (record_at records n).timer counts k (λ e. omega (arith, timed k l, less, ap one_if e)) (omega (arith, l, long)) in
    omega (arith, fewer, timed k l, less)

beyond : (xs : List ℕ) (k : ℕ) → length xs ≤ k → count_at xs k ≡ 0
beyond [] k far = refl
beyond (x ∷ xs) zero far = absurd (omega (arith, far))
beyond (x ∷ xs) (suc k) far = beyond xs k (omega (arith, far))

-- a count is at most how many records are pending
pub room_at : (counts : List ℕ) (pending : List SignalRecord) (o : Option ℕ) → length counts ≡ 256 → AreTimed counts pending → length pending < 255 → HasRoom counts o
room_at counts pending None long timed few = tt
room_at counts pending (Some k) long timed few = by_size (low_or_high k)
  where
    low_or_high : (k : ℕ) → (k < 256) ⊎ (256 ≤ k)
    low_or_high k = grind arith

    by_size : (k < 256) ⊎ (256 ≤ k) → count_at counts k < 255
    by_size (inl low) = omega (arith, timed k low, count_few (λ (r : SignalRecord). is r.timer k) pending, few)
    by_size (inr high) = omega (arith, beyond counts k (omega (arith, high, long)))

pub tells_any : (counts : List ℕ) (pending : List SignalRecord) (k : ℕ) → k < 256 → AreTimed counts pending → nat_lt 0 (count_at counts k) ≡ list_any (λ (r : SignalRecord). is r.timer k) pending
tells_any counts pending k small timed = ap (nat_lt 0) (timed k small) ∙ any_counted (λ (r : SignalRecord). is r.timer k) pending

none_at : (n k : ℕ) → count_at (replicate n 0) k ≡ 0
none_at zero k = refl
none_at (suc n) zero = refl
none_at (suc n) (suc k) = none_at n k

pub timed_none : AreTimed (replicate 256 0) []
timed_none k l = none_at 256 k
