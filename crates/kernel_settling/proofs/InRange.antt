-- Every execution priority is in its range, where those of the threads are: what no thread has the number of owns nothing.
use Rattle.std.proofs.Common.{◌≡◌, ◌<◌, ◌≤◌, ◌⊎◌, inl, inr, ℕ, zero, suc, List, [], ◌∷◌, ◌+◌, ap, arith, length, refl}
use Rattle.std.specs.Prelude.{◌&&◌, Bool, Option, Some, None, false, map, slice_index_or}
use Rattle.std.proofs.lemmas.List.{length-map}
use Rattle.std.proofs.Math.ListN.{get_or-eq_default}
use Rattle.kernel_settling.specs.Settled.{HavePriorities}
use Rattle.rules_machine.specs.Lists.{greatest, is, numbers_from}
use Rattle.rules_machine.specs.State.{Machine, Mutex}
use Rattle.rules_machine.specs.Threads.{mutex_in, no_mutex}
use Rattle.rules_machine.specs.Priorities.{Claim, base_in, owner_ceiling, claim_of, claims, exec, exec_in, exec_within, is_inherit, inherit_waiters_in, is_inherit_mutex_of}
use Rattle.parts_owners.specs.Chains.{OwnersAreThreads}
use Rattle.rules_machine.specs.WellFormed.{IsPriority}

-- the thread owns none of these
abbrev OwnsNone : ℕ → List Mutex → Type 0
OwnsNone t mutexes = (k : ℕ) → is (slice_index_or mutexes k no_mutex).owner t ≡ false

ceiling_none : (t : ℕ) (k : Mutex) → is k.owner t ≡ false → owner_ceiling t k ≡ 0
ceiling_none t k none = rw none refl

no_ceilings : (t : ℕ) (mutexes : List Mutex) → OwnsNone t mutexes → greatest (map (owner_ceiling t) mutexes) ≡ 0
no_ceilings t [] none = refl
no_ceilings t (k ∷ ks) none = rw (ceiling_none t k (none 0), no_ceilings t ks (λ n. none (suc n))) refl

lends_none : (t : ℕ) (k : Mutex) → is k.owner t ≡ false → is_inherit_mutex_of t k ≡ false
lends_none t k none = by_case (is_inherit k.protocol) (is k.owner t) none
  where
    by_case : (a b : Bool) → b ≡ false → (a && b) ≡ false
    by_case a b h = grind arith

no_lenders : (t n : ℕ) (mutexes : List Mutex) → OwnsNone t mutexes → numbers_from n (is_inherit_mutex_of t) mutexes ≡ []
no_lenders t n [] none = refl
no_lenders t n (k ∷ ks) none = rw (lends_none t k (none 0)) (no_lenders t (n + 1) ks (λ j. none (suc j)))

owner_is : (u t n : ℕ) → u < n → n ≤ t → is (Some u) t ≡ false
owner_is u t n lt le = grind arith

owns_none : (cs : List Claim) (mutexes : List Mutex) (t : ℕ) → OwnersAreThreads cs mutexes → length cs ≤ t → OwnsNone t mutexes
owns_none cs mutexes t owners le k = by_owner (mutex_in mutexes k).owner (owners.each k)
  where
    by_owner : (o : Option ℕ) → ((u : ℕ) → o ≡ Some u → u < length cs) → is o t ≡ false
    by_owner None h = refl
    by_owner (Some u) h = owner_is u t (length cs) (h u refl) le

within_beyond : (cs : List Claim) (mutexes : List Mutex) (steps t : ℕ) → OwnsNone t mutexes → length cs ≤ t → exec_within cs mutexes steps t ≡ 0
within_beyond cs mutexes steps t none le = by_steps steps
  where
    base : base_in cs mutexes t ≡ 0
    base = rw (no_ceilings t mutexes none, ap (λ (c : Claim). c.assigned) (get_or-eq_default cs (record { assigned = 0; awaited = None }) le)) refl

    alone : inherit_waiters_in cs mutexes t ≡ []
    alone = rw (no_lenders t 0 mutexes none) refl

    by_steps : (steps : ℕ) → exec_within cs mutexes steps t ≡ 0
    by_steps zero = base
    by_steps (suc n) = rw (base, alone) refl

pub exec_beyond : {P : Type 0} (m : Machine P) (t : ℕ) → OwnersAreThreads (claims m.threads) m.mutexes → length m.threads ≤ t → exec m t ≡ 0
unfolding exec_in
exec_beyond m t owners le =
    let long = length-map m.threads claim_of in
    let beyond : length (claims m.threads) ≤ t = omega (arith, long, le) in
    within_beyond (claims m.threads) m.mutexes (length (claims m.threads)) t (owns_none (claims m.threads) m.mutexes t owners beyond) beyond

-- all priorities are in their range
pub all_small : {P : Type 0} (m : Machine P) → OwnersAreThreads (claims m.threads) m.mutexes → ((t : ℕ) → t < length m.threads → IsPriority (exec m t)) → HavePriorities m
all_small m owners each = record {
  positive = λ t lt. (each t lt).positive;
  small = λ t. by_case t (le_or_gt t (length m.threads));
}
  where
    le_or_gt : (t n : ℕ) → (t < n) ⊎ (n ≤ t)
    le_or_gt t n = grind arith

    by_case : (t : ℕ) → (t < length m.threads) ⊎ (length m.threads ≤ t) → exec m t ≤ 255
    by_case t (inl lt) = (each t lt).small
    by_case t (inr le) = let e = exec_beyond m t owners le in omega (arith, e)
