-- A fresh chain is in order.
use Rattle.std.proofs.Common.{Bool, List, None, Some, [], ap, arith, false, get_or, inl, inr, length, refl, replicate, suc, sym, zero, ℕ, ◌+◌, ◌<◌, ◌≤◌, ◌∷◌, ◌≡◌, ◌≢◌, ◌∙◌}
use Rattle.std.specs.Prelude.{flat_map, map, ◌&&◌}
use Rattle.std.proofs.lemmas.List.{get_or-replicate, length-replicate}
use Rattle.rules_machine.specs.Lists.{greatest, numbers_from}
use Rattle.rules_machine.specs.State.{Mutex}
use Rattle.rules_machine.specs.Threads.{mutex_in}
use Rattle.rules_machine.specs.Priorities.{Claim, assigned_in, base_in, owner_ceiling, inherit_waiters_in, is_inherit_mutex_of}
use Rattle.parts_owners.specs.declared.claims.MutexKind.{MutexKind}
use Rattle.parts_owners.specs.Chains.{Settled, above_in, asked_in, awaited_in, links_of, next_in, no_claim, prio_in, waiters_in}
use Rattle.parts_owners.proofs.Cycles.{option_cases}
use Rattle.parts_owners.specs.Moves.{IsPlaced}
use Rattle.parts_waiters.specs.Places.{place_in}
use Rattle.parts_owners.specs.Fresh.{free_mutex, fresh, fresh_claim}

no_owner : (kinds : List MutexKind) (k : ℕ) → (mutex_in (map free_mutex kinds) k).owner ≡ None
no_owner [] k = refl
no_owner (kind ∷ kinds) zero = refl
no_owner (kind ∷ kinds) (suc k) = no_owner kinds k

no_ceilings : (t : ℕ) (kinds : List MutexKind) → greatest (map (owner_ceiling t) (map free_mutex kinds)) ≡ 0
no_ceilings t [] = refl
no_ceilings t (kind ∷ kinds) = grind (arith, no_ceilings t kinds)

never : (b : Bool) → (b && false) ≡ false
never b = grind arith

no_loans : (n t : ℕ) (kinds : List MutexKind) → numbers_from n (is_inherit_mutex_of t) (map free_mutex kinds) ≡ []
no_loans n t [] = refl
no_loans n t (kind ∷ kinds) = rw never (no_loans (n + 1) t kinds)

waits_for_none : (n t : ℕ) → awaited_in (replicate n fresh_claim) t ≡ None
waits_for_none zero t = refl
waits_for_none (suc n) zero = refl
waits_for_none (suc n) (suc t) = waits_for_none n t

module _ (n : ℕ) (kinds : List MutexKind) where
  no_next : (t : ℕ) → next_in (fresh n kinds).claims (fresh n kinds).mutexes t ≡ None
  no_next t = rw (waits_for_none n t) refl

  no_step : (steps t u : ℕ) → above_in (fresh n kinds).claims (fresh n kinds).mutexes (suc steps) t ≢ Some u
  no_step zero t u e = let none = no_next t in cc
  no_step (suc steps) t u e = elim (option_cases (above_in (fresh n kinds).claims (fresh n kinds).mutexes (suc steps) t)) [
    | inl none ↦ (let gone : above_in (fresh n kinds).claims (fresh n kinds).mutexes (suc (suc steps)) t ≡ None = rw none refl in cc)
    | inr some ↦ no_step steps t some.0 some.1
  ]

  pub fresh_settled : Settled (fresh n kinds) (replicate n 1)
  fresh_settled = record {
    each = length-replicate n 1 ∙ sym (length-replicate n fresh_claim);
    owners = record { each = λ k t h. let none = no_owner kinds k in cc };
    free = record { each = λ t steps. no_step steps t t };
    right = record {
      each = λ t lt.
          let within : t < n = omega (arith, length-replicate n fresh_claim) in
          let one : prio_in (replicate n 1) t ≡ 1 = get_or-replicate n t 1 0 within in
          let claim : get_or (replicate n fresh_claim) t no_claim ≡ fresh_claim = get_or-replicate n t fresh_claim no_claim within in
          let assigned : assigned_in (fresh n kinds).claims (fresh n kinds).mutexes t ≡ 1 = ap (λ (c : Claim). c.assigned) claim in
          let base : base_in (fresh n kinds).claims (fresh n kinds).mutexes t ≡ 1 = omega (arith, assigned, no_ceilings t kinds) in
          let lenders : inherit_waiters_in (fresh n kinds).claims (fresh n kinds).mutexes t ≡ [] = ap (flat_map (waiters_in (fresh n kinds).claims)) (no_loans 0 t kinds) in
          let asked : asked_in (fresh n kinds).claims (fresh n kinds).mutexes (prio_in (replicate n 1)) t ≡ 1 = rw (base, lenders) refl in
          one ∙ sym asked;
    };
    fits = record {
      each = λ t lt. (let one : prio_in (replicate n 1) t ≡ 1 = get_or-replicate n t 1 0 (let long : length {A = ℕ} (replicate n 1) ≡ n = length-replicate {A = ℕ} n 1 in omega (arith, lt, long)) in record { positive = omega (arith, one); small = omega (arith, one) });
    };
  }

pub opened : (n : ℕ) (kinds : List MutexKind) (claims : List Claim) (mutexes : List Mutex) (exec : List ℕ) → claims ≡ replicate n fresh_claim →
    mutexes ≡ map free_mutex kinds → exec ≡ replicate n 1 → n ≤ 256 → (length claims ≤ 256) × Settled (links_of claims mutexes) exec
opened n kinds claims mutexes exec is_claims is_mutexes is_exec few =
    (rw is_claims (omega (arith, length-replicate n fresh_claim)), rw (is_claims, is_mutexes, is_exec) (fresh_settled n kinds))

no_place : (n t : ℕ) → place_in (replicate n None) t ≡ None
no_place zero t = refl
no_place (suc n) zero = refl
no_place (suc n) (suc t) = no_place n t

-- a fresh chain and fresh places agree
pub fresh_placed : (n : ℕ) (kinds : List MutexKind) → IsPlaced (fresh n kinds) (replicate n None)
fresh_placed n kinds = record {
  lengths = length-replicate n None ∙ sym (length-replicate n fresh_claim);
  stand = record { each = λ t. rw (no_place n t) tt };
  waiters = record { each = λ t. rw (no_place n t) (waits_for_none n t) };
}
