-- A set has below 64 what its first word has, and from 64 on what the words after it have.
use Rattle.std.proofs.Common.{◌≡◌, ◌≢◌, ◌<◌, ◌≤◌, ◌⊎◌, inl, inr, ℕ, suc, true, false, Bool, ◌+◌, ◌-◌, ◌/◌, ◌%◌, ◌∙◌, ◌∷◌, List, ap, arith, refl, sym}
use Rattle.std.specs.Prelude.{not, ◌==◌}
use Rattle.std.specs.Int.{bit_at}
use Rattle.std.proofs.lemmas.Bool.Decides.{eqb_tells}
use Rattle.std.proofs.lemmas.Nat.Bits.{bit_at-lt}
use Rattle.parts_bits.specs.Sets.{HasNoneFrom, HasNoOther, IsFirstFrom, Turns, has}
use Rattle.parts_bits.specs.Wide.{TellsAny}

low_or_high : (u : ℕ) → (u < 64) ⊎ (64 ≤ u)
low_or_high u = grind arith

apart : (u n : ℕ) → 64 ≤ u → 64 ≤ n → u ≢ n → (u - 64) ≢ (n - 64)
apart u n great big other = omega (arith, great, big, other)

in_low : (low : ℕ) (high : List ℕ) (t : ℕ) → t < 64 → has t (low ∷ high) ≡ (bit_at low t == 1)
in_low low high t small =
    let word : t / 64 ≡ 0 = omega (arith, small) in
    let bit : t % 64 ≡ t = omega (arith, small) in
    rw (word, bit) refl

in_high : (low : ℕ) (high : List ℕ) (t : ℕ) → 64 ≤ t → has t (low ∷ high) ≡ has (t - 64) high
in_high low high t great =
    let word : t / 64 ≡ suc ((t - 64) / 64) = omega (arith, great) in
    let bit : t % 64 ≡ (t - 64) % 64 = omega (arith, great) in
    rw (word, bit) refl

clear : (low : ℕ) (high : List ℕ) (t : ℕ) → t < 64 → bit_at low t ≡ 0 → has t (low ∷ high) ≡ false
clear low high t small off = in_low low high t small ∙ ap (λ (b : ℕ). b == 1) off

pub turned_high : (n : ℕ) (is : Bool) (low : ℕ) (old new : List ℕ) → 64 ≤ n → Turns (n - 64) is old new → Turns n is (low ∷ old) (low ∷ new)
turned_high n is low old new great turns = record {
  itself = in_high low new n great ∙ turns.itself;
  others = λ u other. elim (low_or_high u) [
    | inl small ↦ in_low low new u small ∙ sym (in_low low old u small)
    | inr big ↦ in_high low new u big ∙ turns.others (u - 64) (apart u n big great other) ∙ sym (in_high low old u big)
  ];
}

module _ (from low : ℕ) (high : List ℕ) (below : (t : ℕ) → from ≤ t → t < 64 → has t (low ∷ high) ≡ false) where
  pub none_high : HasNoneFrom (from - 64) high → HasNoneFrom from (low ∷ high)
  none_high none t after = elim (low_or_high t) [
    | inl small ↦ below t after small
    | inr great ↦ in_high low high t great ∙ none (t - 64) (omega (arith, after, great))
  ]

  pub first_high : (n : ℕ) → IsFirstFrom (from - 64) high n → IsFirstFrom from (low ∷ high) (64 + n)
  first_high n first = record {
    low = let at = first.low in omega (arith, at);
    itself = in_high low high (64 + n) (omega arith) ∙ (let same : 64 + n - 64 ≡ n = omega arith in rw same first.itself);
    between = λ u after before. elim (low_or_high u) [
      | inl small ↦ below u after small
      | inr great ↦ in_high low high u great ∙ first.between (u - 64) (omega (arith, after, great)) (omega (arith, before, great))
    ];
  }

-- no number from 64 on
pub none_narrow : (from low : ℕ) (high : List ℕ) (is_wide : Bool) → ((k : ℕ) → from ≤ k → bit_at low k ≡ 0) → TellsAny is_wide high → is_wide ≡ false → HasNoneFrom from (low ∷ high)
none_narrow from low high is_wide none tells narrow t after = elim (low_or_high t) [
  | inl small ↦ clear low high t small (none t after)
  | inr great ↦ in_high low high t great ∙ tells.none narrow (t - 64)
]

not_true : (b : Bool) → not b ≡ true → b ≡ false
not_true true e = absurd cc
not_true false e = refl

not_set : (b : ℕ) → b < 2 → (b == 1) ≡ false → b ≡ 0
not_set b small off = grind arith

pub both : {A : Type 0} (b : Bool) → b ≡ true → b ≡ false → A
both b is not_so = absurd (let e : true ≡ false = sym is ∙ not_so in cc)

-- ---- whether there is another number

module _ (n low : ℕ) (high : List ℕ) where
  -- a number from 64 on is another than one below
  others_high : n < 64 → HasNoOther n (low ∷ high) → (t : ℕ) → has t high ≡ false
  others_high small none t =
      let back : 64 + t - 64 ≡ t = omega arith in
      sym (ap (λ (u : ℕ). has u high) back) ∙ sym (in_high low high (64 + t) (omega arith)) ∙ none (64 + t) (omega (arith, small))

  -- the first word without the number
  module _ (rest : ℕ) (others : (k : ℕ) → k ≢ n → bit_at rest k ≡ bit_at low k) (itself : bit_at rest n ≡ 0) (small : n < 64) where
    pub alone : (is_wide : Bool) → TellsAny is_wide high → ((k : ℕ) → k < 64 → bit_at rest k ≡ 0) → not is_wide ≡ true → HasNoOther n (low ∷ high)
    alone is_wide tells clear_rest narrow u other = elim (low_or_high u) [
      | inl less ↦ clear low high u less (sym (others u other) ∙ clear_rest u less)
      | inr great ↦ in_high low high u great ∙ tells.none (not_true is_wide narrow) (u - 64)
    ]

    pub narrow_alone : (is_wide : Bool) → TellsAny is_wide high → HasNoOther n (low ∷ high) → not is_wide ≡ true
    narrow_alone false tells none = refl
    narrow_alone true tells none = let some = tells.some refl in both (has some.0 high) some.1 (others_high small none some.0)

    pub rest_alone : HasNoOther n (low ∷ high) → (k : ℕ) → k < 64 → bit_at rest k ≡ 0
    rest_alone none k less = elim (eqb_tells k n) [
      | inl same ↦ rw same.1 itself
      | inr other ↦ others k other.1 ∙ not_set (bit_at low k) (bit_at-lt low k) (sym (in_low low high k less) ∙ none k other.1)
    ]

  module _ (great : 64 ≤ n) where
    pub alone_high : ((k : ℕ) → k < 64 → bit_at low k ≡ 0) → HasNoOther (n - 64) high → HasNoOther n (low ∷ high)
    alone_high clear_low none u other = elim (low_or_high u) [
      | inl small ↦ clear low high u small (clear_low u small)
      | inr big ↦ in_high low high u big ∙ none (u - 64) (apart u n big great other)
    ]

    pub high_alone : HasNoOther n (low ∷ high) → HasNoOther (n - 64) high
    high_alone none u other =
        let back : 64 + u - 64 ≡ u = omega arith in
        sym (ap (λ (t : ℕ). has t high) back) ∙ sym (in_high low high (64 + u) (omega arith)) ∙ none (64 + u) (omega (arith, great, other))

    pub low_alone : HasNoOther n (low ∷ high) → (k : ℕ) → k < 64 → bit_at low k ≡ 0
    low_alone none k small = not_set (bit_at low k) (bit_at-lt low k) (sym (in_low low high k small) ∙ none k (omega (arith, great, small)))
