-- The search for a record from signal to signal of those that have records.
use Rattle.std.specs.Prelude.{IfSome, MatchOption, bit_and, is_some, min}
use Rattle.std.specs.Int.{bit_at}
use Rattle.std.proofs.Common.{◌≡◌, ◌⊎◌, inl, inr, ⊎_elim, ℕ, ◌+◌, ◌-◌, ◌^◌, ◌<◌, ◌≤◌, ◌==◌, ◌&&◌, Bool, true, false, Option, Some, None, List, [], ◌∷◌, if◌then◌else◌, refl, sym, ap, subst, ◌∙◌, arith}
use Rattle.std.proofs.lemmas.Bool.Decides.{nat_tests}
use Rattle.std.proofs.lemmas.Nat.Bits.{bit_at-lt, bit_at_above, bit_at_and}
use Rattle.words_numbers.specs.Signals.{has_signal}
use Rattle.rules_machine.specs.State.{SignalRecord}
use Rattle.parts_arrivals.specs.Arrivals.{Arrival, first_of_rank}
use Rattle.parts_arrivals.specs.Held.{is_marked}
use Rattle.parts_bits.specs.Words.{IsFirstBit}
use Rattle.kernel_signals.specs.Choice.{NoneBelow, first_wanted, is_wanted}
use Rattle.kernel_signals.specs.Kept.{record_of}
use Rattle.kernel_signals.specs.declared.choice.Wanted.{Wanted}
use Rattle.kernel_signals.specs.declared.choice.Wanted.TheVariants.{ForThread}

-- how far the search has come: to a signal of the set, or to the end
abbrev pub HasCome : ℕ → ℕ → List SignalRecord → List Arrival → Option ℕ → Type 0
HasCome t set records order None = NoneBelow t set records order 32
HasCome t set records order (Some s) = NoneBelow t set records order s × (s < 32) × (has_signal set s ≡ true)

abbrev pub left_from : Option ℕ → ℕ
left_from None = 0
left_from (Some s) = 64 - s

of_no_rank : (w : Wanted) (s : ℕ) (records : List SignalRecord) (order : List Arrival) → first_of_rank s order ≡ None → first_wanted w s records order ≡ None
of_no_rank w s records [] e = refl
of_no_rank w s records (a ∷ order) e = by_rank (a.rank == s) refl (of_no_rank w s records order)
  where
    by_rank : (b : Bool) → (a.rank == s) ≡ b → (first_of_rank s order ≡ None → first_wanted w s records order ≡ None) → first_wanted w s records (a ∷ order) ≡ None
    by_rank true r rest = let some : Some a.node ≡ None = sym (ap (λ (x : Bool). if x then Some a.node else first_of_rank s order) r) ∙ e in cc
    by_rank false r rest =
        ap (λ (x : Bool). if x && is_wanted w (record_of records a) then Some a.node else first_wanted w s records order) r
        ∙ rest (sym (ap (λ (x : Bool). if x then Some a.node else first_of_rank s order) r) ∙ e)

pub none_of : (o : Option ℕ) → is_some o ≡ false → o ≡ None
none_of None e = refl
none_of (Some n) e = cc

module _ (t set ranks : ℕ) (records : List SignalRecord) (order : List Arrival)
    (told : (rank : ℕ) → rank < 32 → is_marked rank ranks ≡ is_some (first_of_rank rank order)) where
  both : (s : ℕ) → bit_at (bit_and set ranks) s ≡ min (bit_at set s) (bit_at ranks s)
  both s = bit_at_and set ranks s

  -- a signal of the set that is not asked has no record
  not_asked : (s : ℕ) → s < 32 → bit_at (bit_and set ranks) s ≡ 0 → has_signal set s ≡ true → first_wanted (ForThread t) s records order ≡ None
  not_asked s small none has =
      let one : bit_at set s ≡ 1 = grind (arith, nat_tests, has) in
      let low = bit_at-lt ranks s in
      let zero_bit : bit_at ranks s ≡ 0 = grind (arith, both s, none, one, low) in
      let unmarked : is_marked s ranks ≡ false = ap (λ (n : ℕ). n == 1) zero_bit in
      of_no_rank (ForThread t) s records order (none_of (first_of_rank s order) (sym (told s small) ∙ unmarked))

  -- a signal that is asked is one of the set
  asked : (s : ℕ) → bit_at (bit_and set ranks) s ≡ 1 → has_signal set s ≡ true
  asked s is =
      let low = bit_at-lt set s in
      let one : bit_at set s ≡ 1 = grind (arith, both s, is, low) in ap (λ (n : ℕ). n == 1) one

  small_if : (s : ℕ) → bit_and set ranks < 2 ^ 32 → bit_at (bit_and set ranks) s ≡ 1 → (s < 32) ⊎ (32 ≤ s) → s < 32
  small_if s fits is (inl l) = l
  small_if s fits is (inr high) = absurd (let no : 1 ≡ 0 = sym is ∙ bit_at_above (bit_and set ranks) 32 s fits high in omega (arith, no))

  low_or_high : (s n : ℕ) → (s < n) ⊎ (n ≤ s)
  low_or_high s n = grind arith

  -- from one signal on to the next that is asked
  pub goes_on : (from : ℕ) (o : Option ℕ) → bit_and set ranks < 2 ^ 32 → NoneBelow t set records order from
      → MatchOption o ((k : ℕ) → from ≤ k → bit_at (bit_and set ranks) k ≡ 0) (λ bit. IsFirstBit from (bit_and set ranks) bit) → HasCome t set records order o
  goes_on from None fits below none = λ s small has. ⊎_elim (λ l. below s l has) (λ ge. not_asked s small (none s ge) has) (low_or_high s from)
  goes_on from (Some b) fits below first =
      let small = small_if b fits first.itself (low_or_high b 32) in (
        λ s l has. ⊎_elim (λ lt. below s lt has) (λ ge. not_asked s (omega (arith, l, small)) (first.between s ge l) has) (low_or_high s from),
        small,
        asked b first.itself,
      )

-- where the signal has none either, none is below the next
pub none_here : (t set : ℕ) (records : List SignalRecord) (order : List Arrival) (s : ℕ) → NoneBelow t set records order s → first_wanted (ForThread t) s records order ≡ None
    → NoneBelow t set records order (s + 1)
none_here t set records order s below none u l has = by_order (u == s) refl
  where
    by_order : (b : Bool) → (u == s) ≡ b → first_wanted (ForThread t) u records order ≡ None
    by_order true e = let same : u ≡ s = grind (arith, nat_tests, e) in subst (λ (n : ℕ). first_wanted (ForThread t) n records order ≡ None) (sym same) none
    by_order false e = below u (grind (arith, nat_tests, e, l)) has
