-- The links of the machine: its execution priorities, its test of a cycle, and that it has none.
use Rattle.std.proofs.Common.{List, None, Option, Some, [], ap, arith, false, inl, inr, length, refl, suc, sym, zero, ℕ, ◌≤◌, ◌∷◌, ◌≡◌, ◌∙◌}
use Rattle.std.specs.Prelude.{IfSome, option_and_then}
use Rattle.std.proofs.lemmas.Bool.Decides.{leb_tells}
use Rattle.std.proofs.lemmas.List.{get_or_past, length-map}
use Rattle.rules_machine.specs.State.{Machine, Mutex, Thread, Wait, Waiting, for_condition, for_end, for_message, for_mutex, for_mutex_again, for_room, for_semaphore, for_signal, for_time}
use Rattle.rules_machine.specs.Threads.{thread_at, thread_in, waiting_of}
use Rattle.rules_machine.specs.Priorities.{Claim, claim_of, claims, exec, mutex_awaited_by, mutex_waited}
use Rattle.rules_machine.specs.Conditions.{released_mutex}
use Rattle.rules_machine.specs.Mutexes.{closes_cycle, leads_within, owner_of_awaited}
use Rattle.rules_machine.specs.GoodState.{MutexesAreRight}
use Rattle.parts_waiters.specs.declared.Place.{Place}
use Rattle.parts_waiters.specs.declared.WaitObj.{WaitObj}
use Rattle.parts_waiters.specs.Ties.{AreWaits, object_of, place_at, place_of}
use Rattle.parts_owners.specs.Chains.{Links, NoCycle, awaited_in, closes_cycle_in, exec_of, leads_from, links_of, next_in, no_claim}
use Rattle.parts_owners.specs.Moves.{IsPlaced, mutex_placed}
use Rattle.parts_owners.proofs.Cycles.{first_step, leads_false}

abbrev pub links_in : {P : Type 0} → Machine P → Links
links_in m = links_of (claims m.threads) m.mutexes

pub exec_is : {P : Type 0} (m : Machine P) (t : ℕ) → exec_of (links_in m) t ≡ exec m t
exec_is m t = refl

pub awaited_is : {P : Type 0} (threads : List (Thread P)) (t : ℕ) → awaited_in (claims threads) t ≡ mutex_awaited_by (thread_in threads t)
awaited_is [] t = refl
awaited_is (th ∷ threads) zero = refl
awaited_is (th ∷ threads) (suc t) = awaited_is threads t

module _ {P : Type 0} (threads : List (Thread P)) (mutexes : List Mutex) where
  next_is : (o : Option ℕ) → option_and_then (next_in (claims threads) mutexes) o
      ≡ owner_of_awaited threads mutexes (option_and_then (λ (u : ℕ). mutex_awaited_by (thread_in threads u)) o)
  next_is None = refl
  next_is (Some u) = rw (awaited_is threads u) refl

  pub leads_is : (n : ℕ) (k : Option ℕ) (t : ℕ) → leads_within threads mutexes n k t ≡ leads_from (claims threads) mutexes n (owner_of_awaited threads mutexes k) t
  leads_is zero k t = refl
  leads_is (suc n) k t =
      let on = leads_is n (option_and_then (λ (u : ℕ). mutex_awaited_by (thread_in threads u)) (owner_of_awaited threads mutexes k)) t in
      rw (on, next_is (owner_of_awaited threads mutexes k)) refl

-- the test of the chain is that of the machine
pub closes_cycle_is : {P : Type 0} (m : Machine P) (t k : ℕ) → closes_cycle_in (claims m.threads) m.mutexes t k ≡ closes_cycle m k t
closes_cycle_is m t k =
    let many : length (claims m.threads) ≡ length m.threads = length-map m.threads claim_of in
    rw many (sym (leads_is m.threads m.mutexes (length m.threads) (Some k) t))

-- a good machine has no cycle
pub good_no_cycle : {P : Type 0} (m : Machine P) → MutexesAreRight m → NoCycle (claims m.threads) m.mutexes
good_no_cycle m good = record {
  each = λ t n h.
      let never : leads_from (claims m.threads) m.mutexes (suc n) (next_in (claims m.threads) m.mutexes t) t ≡ false =
      rw (awaited_is m.threads t) (sym (leads_is m.threads m.mutexes (suc n) (mutex_awaited_by (thread_at m t)) t) ∙ good.no_cycle t (suc n)) in
      leads_false (claims m.threads) m.mutexes (suc n) (next_in (claims m.threads) m.mutexes t) t never n (omega arith)
      (sym (first_step (claims m.threads) m.mutexes n t) ∙ h);
}

-- ---- the places of the machine's waits are right for its links

named_waited : (priority serial : ℕ) (w : Wait) → mutex_waited w ≡ mutex_placed (place_at priority serial (released_mutex w) (object_of w))
named_waited priority serial (for_mutex k) = refl
named_waited priority serial (for_mutex_again k how) = refl
named_waited priority serial (for_condition c k) = refl
named_waited priority serial (for_end u) = refl
named_waited priority serial (for_semaphore k) = refl
named_waited priority serial for_time = refl
named_waited priority serial (for_room q message) = refl
named_waited priority serial (for_message q) = refl
named_waited priority serial (for_signal signals) = refl

awaited_placed : (priority : ℕ) (w : Option Waiting) → option_and_then (λ (x : Waiting). mutex_waited x.wait) w ≡ mutex_placed (place_of priority w)
awaited_placed priority None = refl
awaited_placed priority (Some w) = named_waited priority w.serial w.wait

priced_at : (priority serial : ℕ) (released : Option ℕ) (o : Option WaitObj) → IfSome (place_at priority serial released o) (λ (p : Place). p.priority ≡ priority)
priced_at priority serial released None = tt
priced_at priority serial released (Some o) = refl

priced : (priority : ℕ) (w : Option Waiting) → IfSome (place_of priority w) (λ (p : Place). p.priority ≡ priority)
priced priority None = tt
priced priority (Some w) = priced_at priority w.serial (released_mutex w.wait) (object_of w.wait)

awaited_past : (cs : List Claim) (t : ℕ) → length cs ≤ t → awaited_in cs t ≡ None
awaited_past cs t past = ap (λ (c : Claim). c.awaited) (get_or_past cs t no_claim past)

pub waits_placed : {P : Type 0} (m : Machine P) (places : List (Option Place)) → AreWaits m places → IsPlaced (links_in m) places
waits_placed m places ties =
    let many : length (claims m.threads) ≡ length m.threads = length-map m.threads claim_of in
    record {
      lengths = ties.lengths ∙ sym many;
      stand = record {
        each = λ t. elim (leb_tells (length m.threads) t) [
          | inl past ↦ rw (get_or_past places t None (omega (arith, past.1, ties.lengths))) tt
          | inr near ↦ rw (ties.each t near.1) (priced (exec m t) (waiting_of m t))
        ];
      };
      waiters = record {
        each = λ t. elim (leb_tells (length m.threads) t) [
          | inl past ↦ rw (get_or_past places t None (omega (arith, past.1, ties.lengths))) (awaited_past (claims m.threads) t (omega (arith, past.1, many)))
          | inr near ↦ rw (ties.each t near.1) (awaited_is m.threads t ∙ awaited_placed (exec m t) (waiting_of m t))
        ];
      };
    }
