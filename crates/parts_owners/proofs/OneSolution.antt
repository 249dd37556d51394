-- Where chains of owners end, the equations of the execution priorities have one solution, which is `exec_in`.
use Rattle.std.proofs.Common.{List, None, Some, ap, arith, inl, inr, length, refl, suc, sym, zero, ℕ, ◌+◌, ◌-◌, ◌<◌, ◌≤◌, ◌≡◌, ◌∙◌}
use Rattle.std.specs.Prelude.{max, map}
use Rattle.std.proofs.lemmas.Bool.Decides.{leb_tells}
use Rattle.rules_machine.specs.Lists.{greatest}
use Rattle.rules_machine.specs.State.{Mutex}
use Rattle.rules_machine.specs.Priorities.{Claim, base_in, exec_in, exec_within, inherit_waiters_in}
use Rattle.parts_owners.specs.Chains.{ChainsEnd, Solves, above_in, asked_in, next_in}
use Rattle.parts_owners.proofs.InheritWaiters.{each_lender, greatest_none, greatest_same}

module _ (claims : List Claim) (mutexes : List Mutex) where
  -- no chain of so many steps ends at the thread
  record IsShallow (k t : ℕ) : Type 0 where
    none_longer : (u n : ℕ) → u < length claims → above_in claims mutexes n u ≡ Some t → n ≤ k

  pub none_stays : (t n m : ℕ) → above_in claims mutexes n t ≡ None → above_in claims mutexes (n + m) t ≡ None
  none_stays t n zero h = let at : n + 0 ≡ n = omega arith in rw at h
  none_stays t n (suc m) h =
      let at : n + suc m ≡ suc (n + m) = omega arith in
      let before = none_stays t n m h in
      rw at (rw before refl)

  -- a step of a chain that ends comes before its end
  pub within_chain : (t n m u : ℕ) → above_in claims mutexes m t ≡ None → above_in claims mutexes n t ≡ Some u → n < m
  within_chain t n m u ends there =
      elim (leb_tells m n) [
        | inl past ↦ absurd (let at : n ≡ m + (n - m) = omega arith in
            let none : above_in claims mutexes n t ≡ None = rw at (none_stays t m (n - m) ends) in cc)
        | inr before ↦ before.1
      ]

  all_shallow : ChainsEnd claims mutexes → (t : ℕ) → IsShallow (length claims) t
  all_shallow ends t = record {
    none_longer = λ u n lt h. let far = within_chain u n (length claims) t (ends.each u lt) h in omega arith;
  }

  -- below a thread that lends, chains are shorter
  lender_shallow : (k t u : ℕ) → IsShallow (suc k) t → next_in claims mutexes u ≡ Some t → IsShallow k u
  lender_shallow k t u shallow next = record {
    none_longer = λ v n lt h. let more = shallow.none_longer v (suc n) lt (rw h next) in omega arith;
  }

  no_lender : (t u : ℕ) → IsShallow 0 t → u < length claims → next_in claims mutexes u ≡ Some t → ⊥
  no_lender t u shallow lt next = let more = shallow.none_longer u 1 lt next in omega arith

  -- two functions that agree at each thread that lends ask for the same
  pub asked_same : (e f : ℕ → ℕ) (t : ℕ) → ((u : ℕ) → u < length claims → next_in claims mutexes u ≡ Some t → e u ≡ f u) →
      asked_in claims mutexes e t ≡ asked_in claims mutexes f t
  asked_same e f t h =
      ap (λ n. max (base_in claims mutexes t) n)
      (greatest_same e f (inherit_waiters_in claims mutexes t) (each_lender claims mutexes t (λ u. e u ≡ f u) h))

  asked_alone : (e : ℕ → ℕ) (t : ℕ) → IsShallow 0 t → asked_in claims mutexes e t ≡ base_in claims mutexes t
  asked_alone e t shallow =
      let none : greatest (map e (inherit_waiters_in claims mutexes t)) ≡ 0 =
      greatest_none e (inherit_waiters_in claims mutexes t)
      (each_lender claims mutexes t (λ u. e u ≡ 0) (λ u lt next. absurd (no_lender t u shallow lt next))) in
      omega (arith, none)

  steady : (k t : ℕ) → IsShallow k t → exec_within claims mutexes k t ≡ exec_within claims mutexes (suc k) t
  steady zero t shallow = sym (asked_alone (exec_within claims mutexes 0) t shallow)
  steady (suc k) t shallow =
      asked_same (exec_within claims mutexes k) (exec_within claims mutexes (suc k)) t
      (λ u lt next. steady k u (lender_shallow k t u shallow next))

  only : (e : ℕ → ℕ) → Solves claims mutexes e → (k t : ℕ) → t < length claims → IsShallow k t → e t ≡ exec_within claims mutexes k t
  only e solves zero t lt shallow = solves.each t lt ∙ asked_alone e t shallow
  only e solves (suc k) t lt shallow =
      solves.each t lt ∙ asked_same e (exec_within claims mutexes k) t
      (λ u below next. only e solves k u below (lender_shallow k t u shallow next))

  -- the definition solves the equations
  pub exec_solves : ChainsEnd claims mutexes → Solves claims mutexes (exec_in claims mutexes)
  unfolding exec_in
  exec_solves ends = record { each = λ t lt. steady (length claims) t (all_shallow ends t) }

  -- and nothing else does
  pub solution_is_exec : (e : ℕ → ℕ) → ChainsEnd claims mutexes → Solves claims mutexes e →
      (t : ℕ) → t < length claims → e t ≡ exec_in claims mutexes t
  unfolding exec_in
  solution_is_exec e ends solves t lt = only e solves (length claims) t lt (all_shallow ends t)
