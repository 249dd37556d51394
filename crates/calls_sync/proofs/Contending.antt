-- A thread that owns nothing may wait for any mutex.
use Rattle.std.proofs.Common.{◌≡◌, ◌∙◌, ℕ, zero, suc, Bool, true, false, List, [], ◌∷◌, Option, None, Some, length, refl, sym}
use Rattle.std.specs.Prelude.{IsSome, filter, is_some, option_and_then, slice_index_or, ◌<◌}
use Rattle.rules_bodies.specs.declared.cursor.Cursor.{Cursor}
use Rattle.rules_machine.specs.Lists.{is}
use Rattle.rules_machine.specs.State.{Machine, Mutex, Waiting}
use Rattle.rules_machine.specs.Conditions.{released_mutex}
use Rattle.rules_machine.specs.Threads.{is_blocked, mutex_at, no_mutex, thread_at, thread_in, waiting_of}
use Rattle.rules_machine.specs.Priorities.{mutex_awaited_by}
use Rattle.rules_machine.specs.Mutexes.{leads_within, owner_of_awaited}
use Rattle.kernel_state.specs.Waits.{CanWait}
use Rattle.kernel_wakes.specs.Waits.{OwnsNone}

none_first : (t : ℕ) (k : Mutex) (ks : List Mutex) → filter (λ (j : Mutex). is j.owner t) (k ∷ ks) ≡ [] → is k.owner t ≡ false
none_first t k ks e = by_case (is k.owner t) refl
  where
    by_case : (b : Bool) → is k.owner t ≡ b → is k.owner t ≡ false
    by_case true h = absurd (let f : k ∷ filter (λ (j : Mutex). is j.owner t) ks ≡ [] = rw h at e in cc)
    by_case false h = h

none_rest : (t : ℕ) (k : Mutex) (ks : List Mutex) → is k.owner t ≡ false → filter (λ (j : Mutex). is j.owner t) (k ∷ ks) ≡ [] → filter (λ (j : Mutex). is j.owner t) ks ≡ []
none_rest t k ks h e = rw h at e

-- none of the mutexes is its
pub not_owner : (t : ℕ) (ks : List Mutex) → filter (λ (j : Mutex). is j.owner t) ks ≡ [] → (n : ℕ) → is (slice_index_or ks n no_mutex).owner t ≡ false
not_owner t [] e n = refl
not_owner t (k ∷ ks) e zero = none_first t k ks e
not_owner t (k ∷ ks) e (suc n) = not_owner t ks (none_rest t k ks (none_first t k ks e) e) n

module _ (m : Machine Cursor) (t : ℕ) (none : OwnsNone m t) where
  owner_other : (o : Option ℕ) → is (owner_of_awaited m.threads m.mutexes o) t ≡ false
  owner_other None = refl
  owner_other (Some k) = not_owner t m.mutexes none k

  never_leads : (steps : ℕ) (o : Option ℕ) → leads_within m.threads m.mutexes steps o t ≡ false
  never_leads zero o = refl
  never_leads (suc steps) o =
      rw (owner_other o) (never_leads steps (option_and_then (λ (u : ℕ). mutex_awaited_by (thread_in m.threads u)) (owner_of_awaited m.threads m.mutexes o)))

  owned_is : (o : Option ℕ) → (o ≡ None → ⊥) → IsSome o
  owned_is None h = absurd (h refl)
  owned_is (Some u) h = refl

  pub can_wait : (k : ℕ) → k < length m.mutexes → ((mutex_at m k).owner ≡ None → ⊥) → CanWait m t (Some k)
  can_wait k known owned = (known, owned_is (mutex_at m k).owner owned, never_leads (length m.threads) (Some k))

-- a thread whose wait released a mutex is blocked
pub released_blocked : (m : Machine Cursor) (t k : ℕ) (o : Option ℕ) → o ≡ Some k → o ≡ option_and_then (λ (w : Waiting). released_mutex w.wait) (waiting_of m t) →
    is_blocked (thread_at m t).status ≡ true
released_blocked m t k o some is = by_waiting (waiting_of m t) (sym is ∙ some)
  where
    by_waiting : (w : Option Waiting) → option_and_then (λ (v : Waiting). released_mutex v.wait) w ≡ Some k → is_some w ≡ true
    by_waiting None e = absurd cc
    by_waiting (Some w) e = refl
