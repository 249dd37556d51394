-- Sums of pending replenishments: all of them, and those that are due early.
use Rattle.std.proofs.Common.{◌≡◌, ℕ, ◌+◌, ◌<◌, ◌≤◌, Bool, true, false, List, [], ◌∷◌, ◌++◌, refl, arith}
use Rattle.std.specs.Prelude.{sum_by, nat_lt, nat_le, min, if◌then◌else◌}
use Rattle.std.proofs.lemmas.Grind.{common_steps}
use Rattle.rules_server.specs.declared.Replenish.{Replenish}
use Rattle.rules_server.specs.Server.{ServerState, refill_from, joined_after, planned_in}
use Rattle.laws_strict_server.specs.Instants.{refilled, refilled_from}

abbrev pub total : List Replenish → ℕ
total rs = sum_by (λ r. r.amount) rs

abbrev pub amount_if : Bool → Replenish → ℕ
amount_if true r = r.amount
amount_if false r = 0

-- the amounts that are due before d
abbrev pub early : ℕ → List Replenish → ℕ
early d [] = 0
early d (r ∷ rs) = amount_if (nat_lt r.due d) r + early d rs

pub total_cons : (r : Replenish) (rs : List Replenish) → total (r ∷ rs) ≡ r.amount + total rs
total_cons r rs = grind (arith, common_steps)

amount_late : (d : ℕ) (r : Replenish) → d ≤ r.due → amount_if (nat_lt r.due d) r ≡ 0
amount_late d r late = grind arith

amount_early : (d : ℕ) (r : Replenish) → r.due < d → amount_if (nat_lt r.due d) r ≡ r.amount
amount_early d r soon = grind arith

amount_le : (b : Bool) (r : Replenish) → amount_if b r ≤ r.amount
amount_le true r = omega arith
amount_le false r = omega arith

pub early_le_total : (d : ℕ) (rs : List Replenish) → early d rs ≤ total rs
early_le_total d [] = omega arith
early_le_total d (r ∷ rs) =
    let ih = early_le_total d rs in
    let e = total_cons r rs in
    let f = amount_le (nat_lt r.due d) r in
    omega arith

-- ---- planning

appended_total : (r : Replenish) (rs : List Replenish) → total (rs ++ r ∷ []) ≡ total rs + r.amount
appended_total r rs = grind (arith, common_steps)

appended_early : (d : ℕ) (r : Replenish) (rs : List Replenish) → d ≤ r.due → early d (rs ++ r ∷ []) ≡ early d rs
appended_early d r [] late = let e = amount_late d r late in omega arith
appended_early d r (q ∷ rs) late = let ih = appended_early d r rs late in omega arith

joined_after_total : (r q : Replenish) (rs : List Replenish) → total (joined_after r q rs) ≡ total (q ∷ rs) + r.amount
joined_after_total r q [] = grind (arith, common_steps)
joined_after_total r q (next ∷ rest) =
    let ih = joined_after_total r next rest in
    let e = total_cons q (joined_after r next rest) in
    let f = total_cons q (next ∷ rest) in
    omega arith

joined_after_early : (d : ℕ) (r q : Replenish) (rs : List Replenish) → d ≤ r.due → early d (joined_after r q rs) ≤ early d (q ∷ rs)
joined_after_early d r q [] late = let e = amount_late d (record { amount = q.amount + r.amount; due = r.due }) late in omega arith
joined_after_early d r q (next ∷ rest) late = let ih = joined_after_early d r next rest late in omega arith

-- What becomes pending adds to all of it, and not to what is early.
pub planned_total : (b : Bool) (r : Replenish) (rs : List Replenish) → total (planned_in b r rs) ≡ total rs + r.amount
planned_total false r rs = appended_total r rs
planned_total true r [] = appended_total r []
planned_total true r (q ∷ rs) = joined_after_total r q rs

pub planned_early : (b : Bool) (d : ℕ) (r : Replenish) (rs : List Replenish) → d ≤ r.due → early d (planned_in b r rs) ≤ early d rs
planned_early false d r rs late = let e = appended_early d r rs late in omega arith
planned_early true d r [] late = let e = amount_late d r late in omega arith
planned_early true d r (q ∷ rs) late = joined_after_early d r q rs late

-- ---- refilling

pub record Refilled (now : ℕ) (s s' : ServerState) : Type 0 where
  pub params : s'.params ≡ s.params
  pub activation : s'.activation ≡ s.activation
  pub consumed : s'.consumed ≡ s.consumed
  pub sum : s'.capacity + total s'.pending ≡ s.capacity + total s.pending
  pub grows : s.capacity ≤ s'.capacity
  pub spent : (d : ℕ) → now < d → s'.capacity + early d s'.pending ≤ s.capacity + early d s.pending

pub not_refilled : (now : ℕ) (s : ServerState) → Refilled now s s
not_refilled now s = record {
  params = refl;
  activation = refl;
  consumed = refl;
  sum = refl;
  grows = omega arith;
  spent = λ d lt. omega arith;
}

-- one is carried out, and then more
then_refilled : (now : ℕ) (r : Replenish) (rs : List Replenish) (s s' : ServerState) → s.pending ≡ r ∷ rs →
    s.capacity + total (r ∷ rs) ≤ s.params.budget → r.due ≤ now → Refilled now (refill_from (r ∷ rs) s) s' → Refilled now s s'
then_refilled now r rs s s' e fits come more =
    let one = total_cons r rs in
    let all : total s.pending ≡ total (r ∷ rs) = rw e refl in
    let uncut : min (s.capacity + r.amount) s.params.budget ≡ s.capacity + r.amount = omega arith in
    let sum = more.sum in
    let grows = more.grows in
    record {
      params = more.params;
      activation = more.activation;
      consumed = more.consumed;
      sum = omega arith;
      grows = omega arith;
      spent = λ d lt.
          let h = more.spent d lt in
          let a = amount_early d r (omega arith) in
          let f : early d s.pending ≡ amount_if (nat_lt r.due d) r + early d rs = rw e refl in
          omega arith;
    }

refilled_from_is : (rs : List Replenish) (now : ℕ) (s : ServerState) → s.pending ≡ rs → s.capacity + total rs ≤ s.params.budget →
    Refilled now s (refilled_from rs now s)
refilled_from_is [] now s e fits = not_refilled now s
refilled_from_is (r ∷ rs) now s e fits = of_two (nat_le r.due now) refl (refilled_from_is rs now (refill_from (r ∷ rs) s) refl (fits_after))
  where
    fits_after : min (s.capacity + r.amount) s.params.budget + total rs ≤ s.params.budget
    fits_after = let one = total_cons r rs in omega arith

    of_two : (b : Bool) → nat_le r.due now ≡ b → Refilled now (refill_from (r ∷ rs) s) (refilled_from rs now (refill_from (r ∷ rs) s)) →
        Refilled now s (if b then refilled_from rs now (refill_from (r ∷ rs) s) else s)
    of_two true come more = then_refilled now r rs s (refilled_from rs now (refill_from (r ∷ rs) s)) e fits (grind arith) more
    of_two false come more = not_refilled now s

-- The replenishments that are due become capacity, and what is due later does not.
pub refilled_is : (now : ℕ) (s : ServerState) → s.capacity + total s.pending ≤ s.params.budget → Refilled now s (refilled now s)
refilled_is now s fits = refilled_from_is s.pending now s refl fits
