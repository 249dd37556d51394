-- Each thread that lends to another waits for a mutex that the other owns.
use Rattle.std.proofs.Common.{Bool, List, None, Option, Some, [], arith, false, get_or, length, refl, subst, suc, true, ℕ, ◌+◌, ◌++◌, ◌<◌, ◌∷◌, ◌≡◌}
use Rattle.std.specs.Prelude.{flat_map, map, ◌&&◌}
use Rattle.std.specs.List.{AllByRecursion}
use Rattle.std.proofs.lemmas.Bool.Decides.{nat_tests}
use Rattle.rules_machine.specs.Lists.{greatest, is, kept_if, numbers_from, numbers_where}
use Rattle.rules_machine.specs.State.{Mutex}
use Rattle.rules_machine.specs.Threads.{mutex_in, no_mutex}
use Rattle.rules_machine.specs.Priorities.{Claim, is_inherit, inherit_waiters_in, is_inherit_mutex_of}
use Rattle.parts_owners.specs.Chains.{next_in, no_claim}

-- ---- what holds of each member

pub each_append : (P : ℕ → Type 0) (xs ys : List ℕ) → AllByRecursion P xs → AllByRecursion P ys → AllByRecursion P (xs ++ ys)
each_append P [] ys h k = k
each_append P (x ∷ xs) ys h k = (h.0, each_append P xs ys h.1 k)

pub each_joined : (P Q : ℕ → Type 0) (f : ℕ → List ℕ) (ks : List ℕ) → AllByRecursion Q ks →
    ((k : ℕ) → Q k → AllByRecursion P (f k)) → AllByRecursion P (flat_map f ks)
each_joined P Q f [] h g = tt
each_joined P Q f (k ∷ ks) h g = each_append P (f k) (flat_map f ks) (g k h.0) (each_joined P Q f ks h.1 g)

each_kept : (P : ℕ → Type 0) (b : Bool) (n : ℕ) (ns : List ℕ) → (b ≡ true → P n) → AllByRecursion P ns → AllByRecursion P (kept_if b n ns)
each_kept P true n ns h k = (h refl, k)
each_kept P false n ns h k = k

pub each_number : {X : Type 0} (P : ℕ → Type 0) (passes : X → Bool) (none : X) (n : ℕ) (xs : List X) →
    ((i : ℕ) → i < length xs → passes (get_or xs i none) ≡ true → P (n + i)) → AllByRecursion P (numbers_from n passes xs)
each_number P passes none n [] h = tt
each_number P passes none n (x ∷ xs) h =
    each_kept P (passes x) n (numbers_from (n + 1) passes xs)
    (λ e. let at : n + 0 ≡ n = omega arith in subst P at (h 0 (omega arith) e))
    (each_number P passes none (n + 1) xs
    (λ i lt e. let at : n + suc i ≡ n + 1 + i = omega arith in subst P at (h (suc i) (omega arith) e)))

-- two functions that agree at each member have the same greatest value
pub greatest_same : (f g : ℕ → ℕ) (xs : List ℕ) → AllByRecursion (λ x. f x ≡ g x) xs → greatest (map f xs) ≡ greatest (map g xs)
greatest_same f g [] h = refl
greatest_same f g (x ∷ xs) h = grind (arith, greatest_same f g xs h.1, h.0)

pub greatest_none : (f : ℕ → ℕ) (xs : List ℕ) → AllByRecursion (λ x. f x ≡ 0) xs → greatest (map f xs) ≡ 0
greatest_none f [] h = refl
greatest_none f (x ∷ xs) h = grind (arith, greatest_none f xs h.1, h.0)

-- ---- owners

pub is_tells : (o : Option ℕ) (t : ℕ) → is o t ≡ true → o ≡ Some t
is_tells None t h = cc
is_tells (Some u) t h = grind (arith, nat_tests)

lends_tells : (b : Bool) (o : Option ℕ) (t : ℕ) → (b && is o t) ≡ true → o ≡ Some t
lends_tells true o t h = is_tells o t h
lends_tells false o t h = cc

module _ (claims : List Claim) (mutexes : List Mutex) (t : ℕ) where
  pub owner_tells : AllByRecursion (λ k. (mutex_in mutexes k).owner ≡ Some t) (numbers_where (is_inherit_mutex_of t) mutexes)
  owner_tells = each_number (λ k. (mutex_in mutexes k).owner ≡ Some t) (is_inherit_mutex_of t) no_mutex 0 mutexes
      (λ i lt e. let at : 0 + i ≡ i = omega arith in rw at (lends_tells (is_inherit (mutex_in mutexes i).protocol) (mutex_in mutexes i).owner t e))

  waits_tells : (P : ℕ → Type 0) → ((u : ℕ) → u < length claims → next_in claims mutexes u ≡ Some t → P u) →
      (k : ℕ) → (mutex_in mutexes k).owner ≡ Some t → AllByRecursion P (numbers_where (λ (c : Claim). is c.awaited k) claims)
  waits_tells P h k owned = each_number P (λ (c : Claim). is c.awaited k) no_claim 0 claims
      (λ i lt e.
      let at : i ≡ 0 + i = omega arith in
      let waits : (get_or claims i no_claim).awaited ≡ Some k = is_tells (get_or claims i no_claim).awaited k e in
      subst P at (h i lt (rw waits owned)))

  -- what holds of each thread whose next one is this, holds of each that lends to it
  pub each_lender : (P : ℕ → Type 0) → ((u : ℕ) → u < length claims → next_in claims mutexes u ≡ Some t → P u) →
      AllByRecursion P (inherit_waiters_in claims mutexes t)
  each_lender P h =
      each_joined P (λ k. (mutex_in mutexes k).owner ≡ Some t) (λ (k : ℕ). numbers_where (λ (c : Claim). is c.awaited k) claims)
      (numbers_where (is_inherit_mutex_of t) mutexes) owner_tells (waits_tells P h)
