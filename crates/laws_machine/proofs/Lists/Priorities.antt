-- Every priority of a machine is from 1 to 255: every move keeps it.
use Rattle.std.proofs.Common.{Bool, List, None, Option, Some, [], ap, arith, false, length, refl, suc, sym, true, zero, ℕ, ◌<◌, ◌≤◌, ◌∷◌, ◌≡◌}
use Rattle.std.specs.Prelude.{map, max, option_map, slice_index_or, ◌&&◌, if◌then◌else◌}
use mathlib.Core.Path.{subst, ◌∙◌}
use Rattle.words_numbers.specs.Parameters.{Parameters}
use Rattle.words_script.specs.declared.policy.Policy.{Policy}
use Rattle.words_script.specs.declared.policy.Policy.TheVariants as policy
use Rattle.words_script.specs.declared.policy.Protocol.{Protocol}
use Rattle.words_script.specs.declared.policy.Protocol.TheVariants as protocol
use Rattle.words_trace.specs.declared.event.Event.TheVariants as event
use Rattle.rules_server.specs.declared.Replenish.{Replenish}
use Rattle.rules_server.specs.Server.{ServerState, activate, is_high, oldest_pending, plan, refill, refill_from, set_high, charge}
use Rattle.rules_machine.specs.Lists.{changed_at, greatest, is}
use Rattle.rules_machine.specs.Bodies.{Bodies}
use Rattle.rules_machine.specs.State.{Machine, Mutex, Thread}
use Rattle.rules_machine.specs.Threads.{can_run, no_mutex, no_thread, thread_at}
use Rattle.rules_machine.specs.Priorities.{Claim, assigned_in, assigned_under, base_in, owner_ceiling, ceiling_under, claims, exec_in, exec_within, inherit_waiters_in}
use Rattle.rules_machine.specs.Turns.{Turn, changes, changes_mutex, moves, tells}
use Rattle.rules_machine.specs.Servers.{activates_if, activates_server, amount_of, at_once, charged, high_server, refills_server, regains_high, server_of, with_server}
use Rattle.rules_machine.specs.Waking.{ending_with, on_top, put_to_wait, started, woken}
use Rattle.rules_machine.specs.Mutexes.{counted_down, counted_up, freed, taken_by}
use Rattle.rules_machine.specs.Lives.{with_joiner, without_life, without_top}
use Rattle.rules_machine.specs.Cancellation.{without_cleanup}
use Rattle.rules_machine.specs.Scheduling.{at_priority, with_policy, with_priority, takes_priority}
use Rattle.rules_machine.specs.GoodState.{HasParameters}
use Rattle.rules_machine.specs.WellFormed.{IsPriority, PolicyFits, ProtocolFits}
use Rattle.words_numbers.specs.Parameters.{AreParameters}
use Rattle.rules_moves.specs.Moves.{Core, KeepsRenewing, alters, begins, blocks_for, blocks_plainly, core_of, counts_down, counts_up, drops, ends_with, enters_frame, frees, leaves_frame, lives_no_more, prices, pushed, pushes, recasts, refills_one, rejoins, renews_with, takes_for, wakes_with}
use Rattle.rules_moves.proofs.Waiters.Best.{Each}
use Rattle.laws_machine.proofs.Lists.Places.{HavePriorities}

abbrev pub ThreadFits : {P : Type 0} → Thread P → Type 0
ThreadFits th = PolicyFits th.policy × HasParameters th.policy th.server

abbrev pub MutexFits : Mutex → Type 0
MutexFits k = ProtocolFits k.protocol

pub record AllFit {P : Type 0} (m : Machine P) : Type 0 where
  pub threads : Each ThreadFits m.threads
  pub mutexes : Each MutexFits m.mutexes

pub each_changed : {X : Type 0} (Law : X → Type 0) (none : X) (n : ℕ) (f : X → X) (xs : List X) → ((x : X) → Law x → Law (f x)) → Each Law xs → Each Law (changed_at none n f xs)
each_changed Law none n f [] h each = tt
each_changed Law none zero f (x ∷ xs) h each = (h x each.0, each.1)
each_changed Law none (suc n) f (x ∷ xs) h each = (each.0, each_changed Law none n f xs h each.1)

-- ---- what is assigned

assigned_fits : (p : Policy) (server : Option ServerState) → PolicyFits p → HasParameters p server → IsPriority (assigned_under p server)
assigned_fits (policy.Fifo p) server h k = h
assigned_fits (policy.Rr p) server h k = h
assigned_fits (policy.Sporadic params) None h k = h.0
assigned_fits (policy.Sporadic params) (Some s) h k = by_high (is_high s)
  where
    by_high : (b : Bool) → IsPriority (if b then s.params.high else s.params.low)
    by_high true = subst (λ (p : Parameters). IsPriority p.high) (sym k.0) h.1
    by_high false = subst (λ (p : Parameters). IsPriority p.low) (sym k.0) h.0
assigned_fits (policy.Strict params) None h k = h.0
assigned_fits (policy.Strict params) (Some s) h k = by_high (is_high s)
  where
    by_high : (b : Bool) → IsPriority (if b then s.params.high else s.params.low)
    by_high true = subst (λ (p : Parameters). IsPriority p.high) (sym k.0) h.1
    by_high false = subst (λ (p : Parameters). IsPriority p.low) (sym k.0) h.0

abbrev no_claim : Claim
no_claim = record { assigned = 0; awaited = None }

claimed_small : {P : Type 0} (ths : List (Thread P)) (t : ℕ) → Each ThreadFits ths → (slice_index_or (claims ths) t no_claim).assigned ≤ 255
claimed_small [] t each = omega arith
claimed_small (th ∷ ths) zero each = (assigned_fits th.policy th.server each.0.0 each.0.1).small
claimed_small (th ∷ ths) (suc t) each = claimed_small ths t each.1

claimed_positive : {P : Type 0} (ths : List (Thread P)) (t : ℕ) → t < length ths → Each ThreadFits ths → 1 ≤ (slice_index_or (claims ths) t no_claim).assigned
claimed_positive [] t lt each = absurd (omega arith)
claimed_positive (th ∷ ths) zero lt each = (assigned_fits th.policy th.server each.0.0 each.0.1).positive
claimed_positive (th ∷ ths) (suc t) lt each = claimed_positive ths t (omega arith) each.1

-- ---- ceilings, and what is lent

max_small : (a b : ℕ) → a ≤ 255 → b ≤ 255 → max a b ≤ 255
max_small a b h k = grind arith

max_left : (a b : ℕ) → 1 ≤ a → 1 ≤ max a b
max_left a b h = grind arith

ceiling_small : (t : ℕ) (k : Mutex) → MutexFits k → owner_ceiling t k ≤ 255
ceiling_small t k h = by_case (is k.owner t)
  where
    under : (p : Protocol) → ProtocolFits p → ceiling_under p ≤ 255
    under protocol.Plain h = omega arith
    under protocol.Inherit h = omega arith
    under (protocol.Protect p) h = h.small

    by_case : (b : Bool) → (if b then ceiling_under k.protocol else 0) ≤ 255
    by_case true = under k.protocol h
    by_case false = omega arith

ceilings_small : (t : ℕ) (ks : List Mutex) → Each MutexFits ks → greatest (map (owner_ceiling t) ks) ≤ 255
ceilings_small t [] each = omega arith
ceilings_small t (k ∷ ks) each = max_small (owner_ceiling t k) (greatest (map (owner_ceiling t) ks)) (ceiling_small t k each.0) (ceilings_small t ks each.1)

greatest_small : (f : ℕ → ℕ) (ns : List ℕ) → ((n : ℕ) → f n ≤ 255) → greatest (map f ns) ≤ 255
greatest_small f [] h = omega arith
greatest_small f (n ∷ ns) h = max_small (f n) (greatest (map f ns)) (h n) (greatest_small f ns h)

module _ {P : Type 0} (m : Machine P) (fits : AllFit m) where
  base_small : (t : ℕ) → base_in (claims m.threads) m.mutexes t ≤ 255
  base_small t = max_small (assigned_in (claims m.threads) m.mutexes t) (greatest (map (owner_ceiling t) m.mutexes)) (claimed_small m.threads t fits.threads) (ceilings_small t m.mutexes fits.mutexes)

  within_small : (steps t : ℕ) → exec_within (claims m.threads) m.mutexes steps t ≤ 255
  within_small zero t = base_small t
  within_small (suc steps) t =
      max_small (base_in (claims m.threads) m.mutexes t) (greatest (map (exec_within (claims m.threads) m.mutexes steps) (inherit_waiters_in (claims m.threads) m.mutexes t))) (base_small t)
      (greatest_small (exec_within (claims m.threads) m.mutexes steps) (inherit_waiters_in (claims m.threads) m.mutexes t) (within_small steps))

  within_positive : (steps t : ℕ) → t < length m.threads → 1 ≤ exec_within (claims m.threads) m.mutexes steps t
  within_positive zero t lt = max_left (assigned_in (claims m.threads) m.mutexes t) (greatest (map (owner_ceiling t) m.mutexes)) (claimed_positive m.threads t lt fits.threads)
  within_positive (suc steps) t lt =
      max_left (base_in (claims m.threads) m.mutexes t) (greatest (map (exec_within (claims m.threads) m.mutexes steps) (inherit_waiters_in (claims m.threads) m.mutexes t)))
      (max_left (assigned_in (claims m.threads) m.mutexes t) (greatest (map (owner_ceiling t) m.mutexes)) (claimed_positive m.threads t lt fits.threads))

  pub priorities : HavePriorities m
  unfolding exec_in
  priorities = record {
    positive = λ t lt. within_positive (length (claims m.threads)) t lt;
    small = λ t. within_small (length (claims m.threads)) t;
  }

each_changed_at : {X : Type 0} (Law : X → Type 0) (none : X) (n : ℕ) (f : X → X) (xs : List X) → (Law (slice_index_or xs n none) → Law (f (slice_index_or xs n none))) → Each Law xs → Each Law (changed_at none n f xs)
each_changed_at Law none n f [] h each = tt
each_changed_at Law none zero f (x ∷ xs) h each = (h each.0, each.1)
each_changed_at Law none (suc n) f (x ∷ xs) h each = (each.0, each_changed_at Law none n f xs h each.1)

-- ---- what is done to a thread

pub same_parameters : (f : ServerState → ServerState) → ((s : ServerState) → ((f s).params ≡ s.params) × ((f s).kind ≡ s.kind)) → (p : Policy) (o : Option ServerState) → HasParameters p o → HasParameters p (option_map f o)
same_parameters f h (policy.Fifo p) o k = ap (option_map f) k
same_parameters f h (policy.Rr p) o k = ap (option_map f) k
same_parameters f h (policy.Sporadic params) None k = k
same_parameters f h (policy.Sporadic params) (Some s) k = ((h s).0 ∙ k.0, (h s).1 ∙ k.1)
same_parameters f h (policy.Strict params) None k = k
same_parameters f h (policy.Strict params) (Some s) k = ((h s).0 ∙ k.0, (h s).1 ∙ k.1)

refilled_parameters : (s : ServerState) → ((refill s).params ≡ s.params) × ((refill s).kind ≡ s.kind)
refilled_parameters s = by_pending s.pending
  where
    by_pending : (rs : List Replenish) → ((refill_from rs s).params ≡ s.params) × ((refill_from rs s).kind ≡ s.kind)
    by_pending [] = (refl, refl)
    by_pending (r ∷ rs) = (refl, refl)

charged_parameters : (s : ServerState) → ((charged s).params ≡ s.params) × ((charged s).kind ≡ s.kind)
charged_parameters s = by_high (is_high s)
  where
    by_high : (b : Bool) → ((if b then charge s else s).params ≡ s.params) × ((if b then charge s else s).kind ≡ s.kind)
    by_high true = (refl, refl)
    by_high false = (refl, refl)

pub charged_fits : (p : Policy) (o : Option ServerState) → HasParameters p o → HasParameters p (option_map charged o)
charged_fits = same_parameters charged charged_parameters

pub planned_fits : {P : Type 0} (th : Thread P) → ThreadFits th → ThreadFits (with_server plan th)
planned_fits th h = (h.0, same_parameters plan (λ s. (refl, refl)) th.policy th.server h.1)

new_fits : (p : Policy) (now : ℕ) → HasParameters p (server_of p now)
new_fits (policy.Fifo p) now = refl
new_fits (policy.Rr p) now = refl
new_fits (policy.Sporadic params) now = (refl, refl)
new_fits (policy.Strict params) now = (refl, refl)

none_fits : (p : Policy) → HasParameters p None
none_fits (policy.Fifo p) = refl
none_fits (policy.Rr p) = refl
none_fits (policy.Sporadic params) = tt
none_fits (policy.Strict params) = tt

-- another high priority above the low one
priced_parameters : (n : ℕ) (p : Parameters) → IsPriority n → p.low < n → AreParameters p → AreParameters (record p { high = n })
priced_parameters n p small above h = record {
  low_above_zero = h.low_above_zero;
  low_below_high = above;
  high_small = small.small;
  budget_above_zero = h.budget_above_zero;
  budget_within_period = h.budget_within_period;
  period_small = h.period_small;
  some_pending = h.some_pending;
  few_pending = h.few_pending;
}

priced_fits : (n : ℕ) (p : Policy) (o : Option ServerState) → IsPriority n → takes_priority p n ≡ true → PolicyFits p → HasParameters p o → PolicyFits (at_priority n p) × HasParameters (at_priority n p) (option_map (set_high n) o)
priced_fits n (policy.Fifo p) o small takes h k = (small, ap (option_map (set_high n)) k)
priced_fits n (policy.Rr p) o small takes h k = (small, ap (option_map (set_high n)) k)
priced_fits n (policy.Sporadic params) None small takes h k = ((h.0, small), tt)
priced_fits n (policy.Sporadic params) (Some s) small takes h k = ((h.0, small), (ap (λ (q : Parameters). record q { high = n }) k.0, k.1))
priced_fits n (policy.Strict params) None small takes h k = ((h.0, small, priced_parameters n params small (grind arith) h.2), tt)
priced_fits n (policy.Strict params) (Some s) small takes h k = ((h.0, small, priced_parameters n params small (grind arith) h.2), (ap (λ (q : Parameters). record q { high = n }) k.0, k.1))

module _ {P : Type 0} (bodies : Bodies P) (who : Option ℕ) where
  abbrev Law : Turn P → Type 0
  Law s = AllFit s.machine

  pub one : (t : ℕ) (f : Thread P → Thread P) (s : Turn P) → ((th : Thread P) → ThreadFits th → ThreadFits (f th)) → Law s → Law (changes t f s)
  one t f s h q = record { threads = each_changed ThreadFits no_thread t f s.machine.threads h q.threads; mutexes = q.mutexes }

  mutex : (k : ℕ) (f : Mutex → Mutex) (s : Turn P) → ((x : Mutex) → MutexFits x → MutexFits (f x)) → Law s → Law (changes_mutex k f s)
  mutex k f s h q = record { threads = q.threads; mutexes = each_changed MutexFits no_mutex k f s.machine.mutexes h q.mutexes }

  activated : (t : ℕ) (o : Option ServerState) (s : Turn P) → Law s → Law (activates_server t o s)
  activated t None s q = q
  activated t (Some server) s q = let fit = one t (with_server (activate s.machine.now)) s (λ th h. (h.0, same_parameters (activate s.machine.now) (λ x. (refl, refl)) th.policy th.server h.1)) q in record { threads = fit.threads; mutexes = fit.mutexes }

  activated_if : (b : Bool) (t : ℕ) (s : Turn P) → Law s → Law (activates_if b t s)
  activated_if true t s q = activated t (at_once (thread_at s.machine t).server) s q
  activated_if false t s q = q

  refilled : (t : ℕ) (o : Option ServerState) (s : Turn P) → Law s → Law (refills_server t o s)
  refilled t None s q = q
  refilled t (Some server) s q =
      let fit = one t (with_server refill) s (λ th h. (h.0, same_parameters refill refilled_parameters th.policy th.server h.1)) q in
      activated_if (regains_high server && can_run s.machine t) t (tells (event.Refill t (amount_of (oldest_pending server)) (refill server).capacity) (changes t (with_server refill) s))
      (record { threads = fit.threads; mutexes = fit.mutexes })

  same_core : (f : Thread P → Thread P) → ((th : Thread P) → core_of (f th) ≡ core_of th) → (th : Thread P) → ThreadFits th → ThreadFits (f th)
  same_core f e th h = subst (λ (c : Core P). PolicyFits c.policy × HasParameters c.policy c.server) (sym (e th)) h

  pub fitting_keep : KeepsRenewing bodies who Law
  fitting_keep (alters t f) s may q = one t f s (same_core f may) q
  fitting_keep (ends_with t v) s may q = one t (ending_with v) s (λ th h. h) q
  fitting_keep (enters_frame t f) s may q = one t (on_top f) s (λ th h. h) q
  fitting_keep (leaves_frame t) s may q = one t without_top s (λ th h. h) q
  fitting_keep (pushes t u) s may q = one t (pushed u) s (λ th h. h) q
  fitting_keep (drops t) s may q = one t without_cleanup s (λ th h. h) q
  fitting_keep (prices t p) s may q = record {
    threads = each_changed_at ThreadFits no_thread t (with_priority p) s.machine.threads (λ h. priced_fits p (thread_at s.machine t).policy (thread_at s.machine t).server may.2 may.1 h.0 h.1) q.threads;
    mutexes = q.mutexes;
  }
  fitting_keep (renews_with active t new) s may q = activated_if active t (changes t (with_policy new s.machine.now) s) (one t (with_policy new s.machine.now) s (λ th h. (may.2, new_fits new s.machine.now)) q)
  fitting_keep (wakes_with t e r v) s may q =
      let up = tells e (moves t (changes t (woken r v) s)) in let fit = one t (woken r v) s (λ th h. h) q in
      activated t (at_once (high_server (thread_at up.machine t).server)) up (record { threads = fit.threads; mutexes = fit.mutexes })
  fitting_keep (blocks_for by wait due) s may q =
      let fit = one by.thread (put_to_wait (record { wait = wait; serial = s.machine.next_serial; due = due; call = by.call })) s (λ th h. h) q in record { threads = fit.threads; mutexes = fit.mutexes }
  fitting_keep (blocks_plainly by wait due) s may q = absurd may
  fitting_keep (begins t mask) s may q =
      let up = tells (event.Start t) (moves t (changes t (started bodies t mask s.machine.now) s)) in
      let fit = one t (started bodies t mask s.machine.now) s (λ th h. (h.0, new_fits th.policy s.machine.now)) q in
      activated t (at_once (thread_at up.machine t).server) up (record { threads = fit.threads; mutexes = fit.mutexes })
  fitting_keep (lives_no_more t) s may q = let fit = one t without_life s (λ th h. (h.0, none_fits th.policy)) q in record { threads = fit.threads; mutexes = fit.mutexes }
  fitting_keep (recasts t f) s may q = absurd may
  fitting_keep (rejoins t j) s may q = one t (with_joiner j) s (λ th h. h) q
  fitting_keep (counts_up k) s may q = mutex k counted_up s (λ x h. h) q
  fitting_keep (counts_down k) s may q = mutex k counted_down s (λ x h. h) q
  fitting_keep (frees k) s may q = mutex k freed s (λ x h. h) q
  fitting_keep (takes_for t k) s may q = mutex k (taken_by t) s (λ x h. h) q
  fitting_keep (refills_one t) s may q = refilled t (thread_at s.machine t).server s q
  fitting_keep move s may q = record { threads = q.threads; mutexes = q.mutexes }
