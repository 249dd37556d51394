-- The least due tick of all, item by item.
use Rattle.std.proofs.Common.{if◌then◌else◌, ltb-true, ltb-false, ◌≡◌, ◌⊎◌, inl, inr, ⊎_elim, ℕ, zero, suc, ◌+◌, ◌<◌, ◌≤◌, Bool, true, false, nat_lt, Option, Some, None, MatchOption, List, [], ◌∷◌, length, refl, sym, subst, arith}
use Rattle.parts_wheel.specs.Dues.{due_of, NoneIsArmed, IsLeastDue, earlier}
use Rattle.parts_links.proofs.Chains.{equal}
use Rattle.parts_wheel.proofs.Order.{lt_or}
use Rattle.parts_wheel.proofs.Filing.{armed_inside}
use Rattle.parts_wheel.proofs.Holding.{same_due, none_armed}

abbrev pub IsLeastSoFar : List (Option ℕ) → ℕ → Option ℕ → Type 0
IsLeastSoFar dues at None = (i : ℕ) → i < at → due_of i dues ≡ None
IsLeastSoFar dues at (Some t) = ((i : ℕ) × (due_of i dues ≡ Some t)) × ((i d : ℕ) → i < at → due_of i dues ≡ Some d → t ≤ d)

before_or : (i at : ℕ) → i < at + 1 → (i < at) ⊎ (i ≡ at)
before_or i at l = ⊎_elim (λ s. inr s) (λ o. inl (omega (arith, l, o))) (equal i at)

lower_of : (dues : List (Option ℕ)) (at t d : ℕ) (b : Bool) → b ≡ nat_lt d t → due_of at dues ≡ Some d → IsLeastSoFar dues at (Some t) → IsLeastSoFar dues (at + 1) (if b then Some d else Some t)
lower_of dues at t d true e here so =
    let l : d < t = ltb-true d t (sym e) in
    ((at, here), λ i f lt due. ⊎_elim (λ p. let q = so.1 i f p due in omega (arith, q, l)) (λ s. let q = same_due dues at d f here (subst (λ m. due_of m dues ≡ Some f) s due) in omega (arith, q)) (before_or i at lt))
lower_of dues at t d false e here so =
    let l : t ≤ d = ltb-false d t (sym e) in
    (so.0, λ i f lt due. ⊎_elim (λ p. so.1 i f p due) (λ s. let q = same_due dues at d f here (subst (λ m. due_of m dues ≡ Some f) s due) in omega (arith, q, l)) (before_or i at lt))

pub so_far_on : (dues : List (Option ℕ)) (at : ℕ) (o v : Option ℕ) → v ≡ due_of at dues → IsLeastSoFar dues at o → IsLeastSoFar dues (at + 1) (earlier o v)
so_far_on dues at None None e so = λ i l. ⊎_elim (λ p. so i p) (λ s. subst (λ m. due_of m dues ≡ None) (sym s) (sym e)) (before_or i at l)
so_far_on dues at None (Some d) e so =
    ((at, sym e), λ i f lt due. ⊎_elim (λ p. absurd (none_armed dues i f (so i p) due)) (λ s. let q = same_due dues at d f (sym e) (subst (λ m. due_of m dues ≡ Some f) s due) in omega (arith, q)) (before_or i at lt))
so_far_on dues at (Some t) None e so =
    (so.0, λ i f lt due. ⊎_elim (λ p. so.1 i f p due) (λ s. absurd (none_armed dues at f (sym e) (subst (λ m. due_of m dues ≡ Some f) s due))) (before_or i at lt))
so_far_on dues at (Some t) (Some d) e so = lower_of dues at t d (nat_lt d t) refl (sym e) so

none_beyond : (dues : List (Option ℕ)) (i : ℕ) → length dues ≤ i → due_of i dues ≡ None
none_beyond [] i l = refl
none_beyond (o ∷ dues) zero l = absurd (omega (arith, l))
none_beyond (o ∷ dues) (suc i) l = none_beyond dues i (let h : suc (length dues) ≤ suc i = l in omega (arith, h))

pub so_far_all : (dues : List (Option ℕ)) (at : ℕ) (o : Option ℕ) → length dues ≤ at → IsLeastSoFar dues at o → MatchOption o (NoneIsArmed dues) (λ t. IsLeastDue dues t)
so_far_all dues at None l so = λ i. ⊎_elim (λ p. so i p) (λ p. none_beyond dues i (omega (arith, p, l))) (lt_or i at)
so_far_all dues at (Some t) l so = record { holds = so.0; least = λ i d due. so.1 i d (let p = armed_inside dues i d due in omega (arith, p, l)) due }
