-- The test of a cycle, owner by owner.
use Rattle.std.proofs.Common.{Bool, List, None, Option, Some, ap, arith, false, get_or, inl, inr, length, refl, suc, sym, true, zero, ℕ, ◌+◌, ◌-◌, ◌<◌, ◌≤◌, ◌≡◌, ◌≢◌, ◌∙◌}
use Rattle.std.specs.Prelude.{IfSome, option_and_then}
use Rattle.std.proofs.lemmas.Bool.Decides.{eqb_tells}
use Rattle.std.proofs.lemmas.List.{get_or_read}
use Rattle.rules_machine.specs.State.{Mutex}
use Rattle.rules_machine.specs.Threads.{mutex_in, no_mutex}
use Rattle.rules_machine.specs.Priorities.{Claim}
use Rattle.parts_owners.specs.Chains.{OwnersAreThreads, awaited_in, leads_from, next_in}

module _ (claims : List Claim) (mutexes : List Mutex) where
  pub leads_none : (n t : ℕ) → leads_from claims mutexes n None t ≡ false
  leads_none zero t = refl
  leads_none (suc n) t = leads_none n t

  pub leads_found : (n m t : ℕ) → n ≡ m + 1 → leads_from claims mutexes n (Some t) t ≡ true
  leads_found n m t far =
      let at : n ≡ suc m = omega arith in
      elim (eqb_tells t t) [ inl same ↦ rw (at, same.0) refl | inr other ↦ absurd (other.1 refl) ]

  pub leads_on : (n m u t : ℕ) → n ≡ m + 1 → u ≢ t → leads_from claims mutexes n (Some u) t ≡ leads_from claims mutexes m (next_in claims mutexes u) t
  leads_on n m u t far apart =
      let at : n ≡ suc m = omega arith in
      elim (eqb_tells u t) [ inl same ↦ absurd (apart same.1) | inr other ↦ rw (at, other.0) refl ]

  known_owner : OwnersAreThreads claims mutexes → (k : ℕ) (o : Option ℕ) → o ≡ (mutex_in mutexes k).owner → IfSome o (λ u. u < length claims)
  known_owner owners k None e = tt
  known_owner owners k (Some u) e = owners.each k u (sym e)

  owner_below : OwnersAreThreads claims mutexes → (k : Option ℕ) → IfSome (option_and_then (λ (j : ℕ). (mutex_in mutexes j).owner) k) (λ u. u < length claims)
  owner_below owners None = tt
  owner_below owners (Some k) = known_owner owners k (mutex_in mutexes k).owner refl

  pub next_known : OwnersAreThreads claims mutexes → (t : ℕ) → IfSome (next_in claims mutexes t) (λ u. u < length claims)
  next_known owners t = owner_below owners (awaited_in claims t)

  pub first_known : OwnersAreThreads claims mutexes → (k : ℕ) → IfSome (mutex_in mutexes k).owner (λ u. u < length claims)
  first_known owners k = owner_below owners (Some k)

  -- ---- a turn of the search, i of so many done

  pub turn_none : (n t : ℕ) (o : Option ℕ) (r : Bool) → o ≡ None → leads_from claims mutexes n o t ≡ r → false ≡ r
  turn_none n t o r none h = sym (leads_none n t) ∙ (rw none at h)

  pub turn_found : (total i u t : ℕ) (o : Option ℕ) (r : Bool) → i < total → o ≡ Some u → u ≡ t → leads_from claims mutexes (total - i) o t ≡ r → true ≡ r
  turn_found total i u t o r lt some same h =
      let found : leads_from claims mutexes (total - i) o t ≡ true = rw (some, same) (leads_found (total - i) (total - i - 1) t (omega arith)) in
      sym found ∙ h

  pub turn_on : (total i u t : ℕ) (o : Option ℕ) (r : Bool) → i < total → o ≡ Some u → u ≢ t → leads_from claims mutexes (total - i) o t ≡ r →
      leads_from claims mutexes (total - (i + 1)) (next_in claims mutexes u) t ≡ r
  turn_on total i u t o r lt some apart h =
      let on : leads_from claims mutexes (total - i) o t ≡ leads_from claims mutexes (total - (i + 1)) (next_in claims mutexes u) t =
      rw some (leads_on (total - i) (total - (i + 1)) u t (omega arith) apart) in
      sym on ∙ h

  pub turn_end : (total i t : ℕ) (o : Option ℕ) (r : Bool) → total ≤ i → leads_from claims mutexes (total - i) o t ≡ r → false ≡ r
  turn_end total i t o r le h =
      let at : total - i ≡ 0 = omega arith in
      let end : leads_from claims mutexes (total - i) o t ≡ false = rw at refl in
      sym end ∙ h

  pub first_owner : (k : ℕ) (m : Mutex) (o : Option ℕ) → k < length mutexes → m ≡ get_or mutexes k m → o ≡ m.owner → o ≡ (mutex_in mutexes k).owner
  first_owner k m o lt read is = is ∙ ap (λ (x : Mutex). x.owner) (get_or_read mutexes k m lt read no_mutex)
