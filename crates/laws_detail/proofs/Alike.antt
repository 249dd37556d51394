-- Where two machines differ in threads alone, and in these in nothing that is told, they have the same facts.
use Rattle.std.proofs.Common.{Bool, List, Option, ap, false, refl, sym, true, ℕ, ◌∷◌, ◌≡◌}
use Rattle.std.specs.Prelude.{[], filter_map, flat_map, map, not, ◌++◌, if◌then◌else◌}
use mathlib.Core.Path.{ap₂, ◌∙◌}
use Rattle.words_script.specs.declared.decl.Script.{Script}
use Rattle.words_script.specs.declared.name_kind.NameKind.{NameKind}
use Rattle.words_script.specs.declared.name_kind.NameKind.TheVariants as kind
use Rattle.script_writer.specs.Names.{names_of}
use Rattle.rules_server.specs.declared.Replenish.{Replenish}
use Rattle.rules_machine.specs.declared.dispatch.LastDispatch.{LastDispatch}
use Rattle.rules_machine.specs.declared.frame.BodyOf.{BodyOf}
use Rattle.rules_machine.specs.Conditions.{waits_on_condition}
use Rattle.rules_machine.specs.Lists.{numbers, numbers_where}
use Rattle.rules_machine.specs.Mutexes.{waits_for_mutex}
use Rattle.rules_machine.specs.Priorities.{assigned_of, exec}
use Rattle.rules_machine.specs.Queues.{waits_to_receive, waits_to_send}
use Rattle.rules_machine.specs.Semaphores.{waits_on_semaphore}
use Rattle.rules_machine.specs.State.{Machine, Status, Thread, Wait, blocked, dormant, ended, runnable}
use Rattle.rules_machine.specs.Threads.{is_live, no_thread, thread_at, thread_numbers, waiting_in, waiting_of}
use Rattle.rules_machine.specs.Waiters.{Waiter, is_served_before, waiter_of, waiters, waits_so}
use Rattle.rules_facts.specs.Fact.{Cancelability, Fact, Priorities, blocked_thread, cancelability, inner_frames, masked, pushed_cleanups, ready_thread, receivers_of, replenishments, senders_of, waiters_of}
use Rattle.rules_facts.specs.Facts.{facts, facts_of_objects, facts_of_threads}
use Rattle.rules_facts.specs.Lists.{list_facts}
use Rattle.rules_facts.specs.Objects.{in_service_order, owner_fact, semaphore_fact, timer_fact}
use Rattle.rules_facts.specs.Order.{in_order}
use Rattle.rules_facts.specs.Queues.{messages_fact, registration_fact, senders_and_receivers}
use Rattle.rules_facts.specs.Signals.{signal_fact}
use Rattle.rules_facts.specs.Threads.{blocking_of, cancelability_fact, cleanups_fact, frames_fact, inner_bodies, living, mask_fact, pending_fact, planned, priorities_of, status_fact, thread_fact}

-- what is told of a thread, but its execution priority
pub record Seen : Type 0 where
  pub status : Status
  pub assigned : ℕ
  pub bodies : List BodyOf
  pub mask : ℕ
  pub is_requested : Bool
  pub is_enabled : Bool
  pub is_ending : Bool
  pub cleanups : List ℕ
  pub planned : List Replenish

abbrev pub seen : {P : Type 0} → Thread P → Seen
seen th = record {
  status = th.status;
  assigned = assigned_of th;
  bodies = inner_bodies th.frames;
  mask = th.mask;
  is_requested = th.is_requested;
  is_enabled = th.is_enabled;
  is_ending = th.is_ending;
  cleanups = th.cleanups;
  planned = planned th.server;
}

abbrev cancelability_seen : Seen → Cancelability
cancelability_seen s = record { is_requested = s.is_requested; is_disabled = not s.is_enabled; is_ending = s.is_ending }

same_function : {X Y : Type 0} (f h : X → Y) → ((x : X) → f x ≡ h x) → f ≡ h
same_function f h e = λ i x. e x i

same : (fs : List Fact) → fs ≡ fs
same fs = refl

infixl 4 ◌⊕◌
◌⊕◌ : {a' a b' b : List Fact} → a' ≡ a → b' ≡ b → a' ++ b' ≡ a ++ b
◌⊕◌ in_a in_b = ap₂ (λ (x y : List Fact). x ++ y) in_a in_b

same_row : (row' row : ℕ → Fact) → ((n : ℕ) → row' n ≡ row n) → (ns' ns : List ℕ) → ns' ≡ ns → map row' ns' ≡ map row ns
same_row row' row each ns' ns numbers = ap₂ (λ (f : ℕ → Fact) (xs : List ℕ). map f xs) (same_function row' row each) numbers

module _ {P : Type 0} where
  live_or_none : (lives : Bool) (th : Thread P) → seen (if lives then th else no_thread) ≡ (if lives then seen th else seen {P = P} no_thread)
  live_or_none true th = refl
  live_or_none false th = refl

  -- a thread that is seen, or none where it does not live
  abbrev living_seen : Thread P → Seen → Seen
  living_seen none s = if is_live s.status then s else seen none

  living_same : (x y : Thread P) → seen x ≡ seen y → seen (living x) ≡ seen (living y)
  living_same x y e = live_or_none (is_live x.status) x ∙ ap (living_seen no_thread) e ∙ sym (live_or_none (is_live y.status) y)

-- another state of the threads of a machine
module _ {P : Type 0} (m : Machine P) (threads : List (Thread P)) (now : ℕ) (last : LastDispatch) where
  abbrev pub other : Machine P
  other = record m { threads = threads; now = now; last = last }

  -- it differs in nothing that is told
  pub record TellsTheSame : Type 0 where
    pub each : (t : ℕ) → seen (thread_at other t) ≡ seen (thread_at m t)
    pub exec : (t : ℕ) → exec other t ≡ exec m t
    pub numbers : thread_numbers other ≡ thread_numbers m
    pub waiting : (passes : Wait → Bool) → numbers_where (waits_so passes) threads ≡ numbers_where (waits_so passes) m.threads

  module _ (alike : TellsTheSame) where
    priorities_same : (t : ℕ) → priorities_of other t ≡ priorities_of m t
    priorities_same t = ap₂ (λ (a e : ℕ). record { assigned = a; exec = e }) (ap (λ (s : Seen). s.assigned) (alike.each t)) (alike.exec t)

    by_status : (t : ℕ) (status : Status) → status_fact other t status ≡ status_fact m t status
    by_status t (dormant at) = refl
    by_status t runnable = ap (ready_thread t) (priorities_same t)
    by_status t (blocked w) = ap (λ (p : Priorities). blocked_thread t p (blocking_of w)) (priorities_same t)
    by_status t ended = refl

    status_same : (t : ℕ) → thread_fact other t ≡ thread_fact m t
    status_same t = ap (λ (s : Seen). status_fact other t s.status) (alike.each t) ∙ by_status t (thread_at m t).status

    living_alike : (t : ℕ) → seen (living (thread_at other t)) ≡ seen (living (thread_at m t))
    living_alike t = living_same (thread_at other t) (thread_at m t) (alike.each t)

    row_of_threads : (row' row : ℕ → Fact) → ((t : ℕ) → row' t ≡ row t) → map row' (thread_numbers other) ≡ map row (thread_numbers m)
    row_of_threads row' row each = same_row row' row each (thread_numbers other) (thread_numbers m) alike.numbers

    threads_same : facts_of_threads other ≡ facts_of_threads m
    threads_same =
        row_of_threads (thread_fact other) (thread_fact m) status_same
        ⊕ row_of_threads (frames_fact other) (frames_fact m) (λ t. ap (λ (s : Seen). inner_frames t s.bodies) (living_alike t))
        ⊕ row_of_threads (mask_fact other) (mask_fact m) (λ t. ap (λ (s : Seen). masked t s.mask) (living_alike t))
        ⊕ row_of_threads (cancelability_fact other) (cancelability_fact m) (λ t. ap (λ (s : Seen). cancelability t (cancelability_seen s)) (living_alike t))
        ⊕ row_of_threads (cleanups_fact other) (cleanups_fact m) (λ t. ap (λ (s : Seen). pushed_cleanups t s.cleanups) (living_alike t))
        ⊕ row_of_threads (pending_fact other) (pending_fact m) (λ t. ap (λ (s : Seen). replenishments t s.planned) (living_alike t))

    waiters_same : (passes : Wait → Bool) → waiters other passes ≡ waiters m passes
    waiters_same passes =
        let of' : (ℕ → Option Waiter) = λ t. waiter_of t (exec other t) (waiting_of other t) in
        let of : (ℕ → Option Waiter) = λ t. waiter_of t (exec m t) (waiting_of m t) in
        let by : (t : ℕ) → of' t ≡ of t = λ t. ap₂ (waiter_of t) (alike.exec t) (ap (λ (s : Seen). waiting_in s.status) (alike.each t)) in
        ap₂ (λ (f : ℕ → Option Waiter) (ns : List ℕ). filter_map f ns) (same_function of' of by) (alike.waiting passes)

    service_same : (passes : Wait → Bool) → in_service_order other passes ≡ in_service_order m passes
    service_same passes = ap (λ (ws : List Waiter). map (λ (w : Waiter). w.thread) (in_order is_served_before ws)) (waiters_same passes)

    row_of_waiters : (sort : NameKind) (passes : ℕ → Wait → Bool) (ns : List ℕ)
        → map (λ (k : ℕ). waiters_of sort k (in_service_order other (passes k))) ns ≡ map (λ (k : ℕ). waiters_of sort k (in_service_order m (passes k))) ns
    row_of_waiters sort passes ns =
        same_row (λ (k : ℕ). waiters_of sort k (in_service_order other (passes k))) (λ (k : ℕ). waiters_of sort k (in_service_order m (passes k)))
        (λ k. ap (waiters_of sort k) (service_same (passes k))) ns ns refl

    queue_same : (q : ℕ) → senders_and_receivers other q ≡ senders_and_receivers m q
    queue_same q = ap₂ (λ (senders receivers : List ℕ). senders_of q senders ∷ receivers_of q receivers ∷ []) (service_same (waits_to_send q)) (service_same (waits_to_receive q))

    objects_same : (script : Script) → facts_of_objects script other ≡ facts_of_objects script m
    objects_same script =
        same (map (owner_fact m) (numbers m.mutexes))
        ⊕ row_of_waiters kind.Mutex waits_for_mutex (numbers m.mutexes)
        ⊕ row_of_waiters kind.Cond waits_on_condition (numbers (names_of kind.Cond script.decls))
        ⊕ row_of_waiters kind.Sem waits_on_semaphore (numbers m.semaphores)
        ⊕ same (map (semaphore_fact m) (numbers m.semaphores))
        ⊕ same (map (messages_fact m) (numbers m.queues))
        ⊕ ap (λ (f : ℕ → List Fact). flat_map f (numbers m.queues)) (same_function (senders_and_receivers other) (senders_and_receivers m) queue_same)
        ⊕ same (map (registration_fact m) (numbers m.queues))
        ⊕ same (map (timer_fact m) (numbers m.timers))
        ⊕ same (map (signal_fact m) (numbers m.actions))

    pub facts_same : (script : Script) → facts script other ≡ facts script m
    facts_same script = same (list_facts m.lists) ⊕ (threads_same ⊕ objects_same script)
