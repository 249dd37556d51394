-- Whether a mask has the signals of all that are pending, by the word of the ranks.
use Rattle.std.specs.Prelude.{All, bit_and, is_some, min}
use Rattle.std.specs.Int.{bit_at, bit_not}
use Rattle.std.specs.List.{AllByRecursion}
use Rattle.std.proofs.Common.{◌≡◌, ◌⊎◌, inl, inr, ℕ, suc, ◌-◌, ◌^◌, ◌<◌, ◌≤◌, ◌==◌, Bool, true, false, Some, List, [], ◌∷◌, if◌then◌else◌, w32, refl, sym, ap, subst, ◌∙◌, arith}
use Rattle.std.proofs.lemmas.Bool.Decides.{nat_tests}
use Rattle.std.proofs.lemmas.Nat.Bits.{bit_at-lt, bit_at_above, bit_at_and, bit_at_not}
use Rattle.words_numbers.specs.Signals.{has_signal}
use Rattle.rules_machine.specs.State.{SignalRecord}
use Rattle.parts_arrivals.specs.Arrivals.{Arrival, IsArrival, first_of_rank}
use Rattle.parts_arrivals.specs.Held.{is_marked}
use Rattle.kernel_signals.specs.Kept.{AreRanked, records_of}
use Rattle.kernel_signals.proofs.Keeping.{to_all}

-- ---- what holds of each rank that a node has

still_some : (s : ℕ) (a : Arrival) (order : List Arrival) → is_some (first_of_rank s order) ≡ true → is_some (first_of_rank s (a ∷ order)) ≡ true
still_some s a order e = by_rank (a.rank == s)
  where
    by_rank : (b : Bool) → is_some (if b then Some a.node else first_of_rank s order) ≡ true
    by_rank true = refl
    by_rank false = e

own_some : (a : Arrival) (order : List Arrival) → is_some (first_of_rank a.rank (a ∷ order)) ≡ true
own_some a order =
    let same : (a.rank == a.rank) ≡ true = grind (arith, nat_tests) in
    ap (λ (b : Bool). is_some (if b then Some a.node else first_of_rank a.rank order)) same

to_each : (P : ℕ → Type 0) (order : List Arrival) → ((s : ℕ) → is_some (first_of_rank s order) ≡ true → P s) → AllByRecursion (λ (a : Arrival). P a.rank) order
to_each P [] h = tt
to_each P (a ∷ order) h = (h a.rank (own_some a order), to_each P order (λ s e. h s (still_some s a order e)))

of_each : (P : ℕ → Type 0) (order : List Arrival) (s : ℕ) → AllByRecursion (λ (a : Arrival). P a.rank) order → is_some (first_of_rank s order) ≡ true → P s
of_each P [] s all e = absurd cc
of_each P (a ∷ order) s all e = by_rank (a.rank == s) refl e (of_each P order s all.1)
  where
    by_rank : (b : Bool) → (a.rank == s) ≡ b → is_some (if b then Some a.node else first_of_rank s order) ≡ true → (is_some (first_of_rank s order) ≡ true → P s) → P s
    by_rank true same h later = let is : a.rank ≡ s = grind (arith, nat_tests, same) in subst P is all.0
    by_rank false other h later = later h

-- ---- and so of each record

to_records : (P : ℕ → Type 0) (records : List SignalRecord) (order : List Arrival) → AreRanked records order → AllByRecursion (λ (a : Arrival). P a.rank) order →
    AllByRecursion (λ (r : SignalRecord). P r.signal) (records_of records order)
to_records P records [] ranked all = tt
to_records P records (a ∷ order) ranked all = (subst P (sym ranked.0) all.0, to_records P records order ranked.1 all.1)

of_records : (P : ℕ → Type 0) (records : List SignalRecord) (order : List Arrival) → AreRanked records order → AllByRecursion (λ (r : SignalRecord). P r.signal) (records_of records order) →
    AllByRecursion (λ (a : Arrival). P a.rank) order
of_records P records [] ranked all = tt
of_records P records (a ∷ order) ranked all = (subst P ranked.0 all.0, of_records P records order ranked.1 all.1)

of_all : (P : SignalRecord → Type 0) (rs : List SignalRecord) → All P rs → AllByRecursion P rs
of_all P [] all = tt
of_all P (r ∷ rs) all = (all 0 r (omega arith), of_all P rs (λ k d l. all (suc k) d (omega (arith, l))))

small_each : (nodes : ℕ) (order : List Arrival) → AllByRecursion (IsArrival nodes) order → AllByRecursion (λ (a : Arrival). a.rank < 32) order
small_each nodes [] each = tt
small_each nodes (a ∷ order) each = (each.0.rank, small_each nodes order each.1)

-- ---- by the bits

module _ (mask ranks : ℕ) (records : List SignalRecord) (order : List Arrival) (fits : mask < 2 ^ 32)
    (told : (rank : ℕ) → rank < 32 → is_marked rank ranks ≡ is_some (first_of_rank rank order)) where
  abbrev pub others : ℕ
  others = bit_and ranks (bit_not w32 mask)

  bits : (s : ℕ) → s < 32 → bit_at others s ≡ min (bit_at ranks s) (1 - bit_at mask s)
  bits s l = bit_at_and ranks (bit_not w32 mask) s ∙ ap (min (bit_at ranks s)) (bit_at_not w32 mask s fits l)

  masked_if : (s : ℕ) → s < 32 → bit_at others s ≡ 0 → is_some (first_of_rank s order) ≡ true → has_signal mask s ≡ true
  masked_if s l none come =
      let on : is_marked s ranks ≡ true = told s l ∙ come in
      let one : bit_at ranks s ≡ 1 = grind (arith, nat_tests, on) in
      let low = bit_at-lt mask s in
      let it : bit_at mask s ≡ 1 = grind (arith, bits s l, none, one, low) in
      ap (λ (n : ℕ). n == 1) it

  clear_if : (s : ℕ) → s < 32 → (is_some (first_of_rank s order) ≡ true → has_signal mask s ≡ true) → bit_at others s ≡ 0
  clear_if s l h = by_mark (is_some (first_of_rank s order)) refl
    where
      by_mark : (b : Bool) → is_some (first_of_rank s order) ≡ b → bit_at others s ≡ 0
      by_mark true e =
          let on = h e in
          let one : bit_at mask s ≡ 1 = grind (arith, nat_tests, on) in
          grind (arith, bits s l, one)
      by_mark false e =
          let off : is_marked s ranks ≡ false = told s l ∙ e in
          let low = bit_at-lt ranks s in
          let none : bit_at ranks s ≡ 0 = grind (arith, nat_tests, off, low) in
          grind (arith, bits s l, none)

  pub all_masked : (nodes : ℕ) → AllByRecursion (IsArrival nodes) order → AreRanked records order → ((k : ℕ) → k < 64 → bit_at others k ≡ 0) →
      All (λ (r : SignalRecord). has_signal mask r.signal ≡ true) (records_of records order)
  all_masked nodes each ranked none =
      to_all (λ (r : SignalRecord). has_signal mask r.signal ≡ true) (records_of records order)
      (to_records (λ s. has_signal mask s ≡ true) records order ranked
      (to_each (λ s. has_signal mask s ≡ true) order (λ s e. masked_if s (of_each (λ k. k < 32) order s (small_each nodes order each) e) (none s (let l = of_each (λ k. k < 32) order s (small_each nodes order each) e in omega (arith, l))) e)))

  pub no_others : others < 2 ^ 32 → AreRanked records order → All (λ (r : SignalRecord). has_signal mask r.signal ≡ true) (records_of records order) → (k : ℕ) → k < 64 → bit_at others k ≡ 0
  no_others small ranked all k l = by_size (low_or_high k)
    where
      low_or_high : (k : ℕ) → (k < 32) ⊎ (32 ≤ k)
      low_or_high k = grind arith

      each : AllByRecursion (λ (a : Arrival). has_signal mask a.rank ≡ true) order
      each = of_records (λ s. has_signal mask s ≡ true) records order ranked (of_all (λ (r : SignalRecord). has_signal mask r.signal ≡ true) (records_of records order) all)

      by_size : (k < 32) ⊎ (32 ≤ k) → bit_at others k ≡ 0
      by_size (inl low) = clear_if k low (λ e. of_each (λ s. has_signal mask s ≡ true) order k each e)
      by_size (inr high) = bit_at_above others 32 k small high
