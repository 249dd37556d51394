-- The places where a thread no longer waits.
use Rattle.std.proofs.Common.{◌≡◌, ◌<◌, ◌∙◌, ℕ, zero, suc, Bool, true, false, None, Option, Some, List, [], ◌∷◌, ap, arith, length, refl, subst, sym}
use Rattle.std.specs.Prelude.{◌==◌, IfSome, option_map, slice_index_or, slice_set}
use Rattle.std.proofs.lemmas.List.{length-set}
use Rattle.parts_waiters.specs.declared.Place.{Place}
use Rattle.parts_waiters.specs.Places.{place_in}
use Rattle.parts_owners.specs.Chains.{Links, awaited_in, exec_of}
use Rattle.parts_owners.specs.Moves.{IsPlaced, left, mutex_placed, unpriced}
use Rattle.kernel_table.specs.Moves.{ArePriced}

pub set_same : {X : Type 0} (xs : List X) (t : ℕ) (y d : X) → t < length xs → slice_index_or (slice_set xs t y) t d ≡ y
set_same [] t y d lt = absurd (omega arith)
set_same (x ∷ xs) zero y d lt = refl
set_same (x ∷ xs) (suc t) y d lt = set_same xs t y d (omega arith)

pub set_other : {X : Type 0} (xs : List X) (t u : ℕ) (y d : X) → (t == u) ≡ false → slice_index_or (slice_set xs t y) u d ≡ slice_index_or xs u d
set_other [] t u y d e = refl
set_other (x ∷ xs) zero zero y d e = absurd (grind arith)
set_other (x ∷ xs) zero (suc u) y d e = refl
set_other (x ∷ xs) (suc t) zero y d e = refl
set_other (x ∷ xs) (suc t) (suc u) y d e = set_other xs t u y d (grind arith)

set_none : (xs : List (Option Place)) (t : ℕ) → place_in (slice_set xs t None) t ≡ None
set_none [] t = refl
set_none (x ∷ xs) zero = refl
set_none (x ∷ xs) (suc t) = set_none xs t

pub bare_none : (p : Option Place) → option_map unpriced p ≡ None → p ≡ None
bare_none None e = refl
bare_none (Some p) e = absurd cc

-- it stands nowhere
pub left_nowhere : (new : Links) (t : ℕ) (before after : List (Option Place)) → ArePriced new (left t before) after → place_in after t ≡ None
left_nowhere new t before after h = bare_none (place_in after t) (h.same.each t ∙ ap (option_map unpriced) (set_none before t))

-- a thread that awaits no mutex leaves its object
pub left_placed : (chain : Links) (t : ℕ) (places : List (Option Place)) → awaited_in chain.claims t ≡ None → IsPlaced chain places → IsPlaced chain (left t places)
left_placed chain t places none h = record {
  lengths = length-set places t None ∙ h.lengths;
  stand = record { each = λ u. stands u (t == u) refl };
  waiters = record { each = λ u. waits u (t == u) refl };
}
  where
    stands : (u : ℕ) (b : Bool) → (t == u) ≡ b → IfSome (place_in (left t places) u) (λ (p : Place). p.priority ≡ exec_of chain u)
    stands u true e = let it : t ≡ u = grind arith in subst (λ (v : ℕ). IfSome (place_in (left t places) v) (λ (p : Place). p.priority ≡ exec_of chain v)) it (rw (set_none places t) tt)
    stands u false e = rw (set_other places t u None None e) (h.stand.each u)

    waits : (u : ℕ) (b : Bool) → (t == u) ≡ b → awaited_in chain.claims u ≡ mutex_placed (place_in (left t places) u)
    waits u true e = let it : t ≡ u = grind arith in subst (λ (v : ℕ). awaited_in chain.claims v ≡ mutex_placed (place_in (left t places) v)) it (none ∙ ap mutex_placed (sym (set_none places t)))
    waits u false e = h.waiters.each u ∙ ap mutex_placed (sym (set_other places t u None None e))
