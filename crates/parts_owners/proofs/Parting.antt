-- A thread leaves a mutex that nobody owns: it is asked for what it has.
use Rattle.std.proofs.Common.{List, None, Option, Some, ap, get_or, inl, inr, length, refl, sym, ℕ, ◌<◌, ◌≡◌, ◌≢◌, ◌∙◌}
use Rattle.std.proofs.lemmas.Bool.Decides.{eqb_tells}
use Rattle.std.proofs.lemmas.List.{get_or-set_other, get_or-set_same}
use Rattle.rules_machine.specs.Lists.{is}
use Rattle.rules_machine.specs.Threads.{mutex_in}
use Rattle.rules_machine.specs.Priorities.{Claim}
use Rattle.rules_machine.proofs.Reading.{changed-keeps, changed-length}
use Rattle.parts_owners.specs.Chains.{Links, Settled, asked_in, awaited_in, next_in, no_claim, prio_in, waiting_for, with_claim}
use Rattle.parts_owners.proofs.Cycles.{differ}
use Rattle.parts_owners.proofs.Elsewhere.{asked_elsewhere}

module _ (s : Links) (exec : List ℕ) (t m : ℕ) (known : t < length s.claims) (waits : awaited_in s.claims t ≡ Some m) (free : next_in s.claims s.mutexes t ≡ None) where
  abbrev parted : Links
  parted = with_claim t (waiting_for None) s

  pub none_now : awaited_in parted.claims t ≡ None
  none_now = ap (λ (c : Claim). c.awaited) (get_or-set_same s.claims t (waiting_for None (get_or s.claims t no_claim)) no_claim known)

  as_before : (u : ℕ) → u ≢ t → awaited_in parted.claims u ≡ awaited_in s.claims u
  as_before u other = ap (λ (c : Claim). c.awaited) (get_or-set_other s.claims t u (waiting_for None (get_or s.claims t no_claim)) no_claim other)

  -- it does not own the mutex that it waited for
  not_its_own : (k : ℕ) → (mutex_in s.mutexes k).owner ≡ Some t → m ≢ k
  not_its_own k owned same =
      let none : (mutex_in s.mutexes m).owner ≡ None = rw waits at free in
      let some : None ≡ Some t = sym none ∙ ap (λ (j : ℕ). (mutex_in s.mutexes j).owner) same ∙ owned in cc

  same_waiters : (k : ℕ) → (mutex_in s.mutexes k).owner ≡ Some t → (i : ℕ) → is (awaited_in parted.claims i) k ≡ is (awaited_in s.claims i) k
  same_waiters k owned i = elim (eqb_tells i t) [
    | inl same ↦ rw same.1 (rw (none_now, waits) (sym (differ m k (not_its_own k owned))))
    | inr other ↦ ap (λ (o : Option ℕ). is o k) (as_before i other.1)
  ]

  pub parted_same : Settled s exec → prio_in exec t ≡ asked_in parted.claims parted.mutexes (prio_in exec) t
  parted_same settled =
      settled.right.each t known
      ∙ sym (asked_elsewhere s.claims parted.claims s.mutexes (prio_in exec) t (changed-length no_claim t (waiting_for None) s.claims)
      (changed-keeps no_claim t t (waiting_for None) (λ (c : Claim). c.assigned) (λ c. refl) s.claims) same_waiters)
