-- At the opening of every script nobody waits, joins or owns, and no list has a member.
use Rattle.std.proofs.Common.{Bool, List, None, Option, [], ap, arith, false, refl, suc, sym, true, zero, ℕ, ◌∷◌, ◌≡◌}
use Rattle.std.specs.Prelude.{filter_map, map, option_and_then, replicate, slice_index_or}
use Rattle.std.specs.List.{list_any}
use mathlib.Core.Path.{subst, ◌∙◌}
use Rattle.words_script.specs.declared.decl.Decl.{Decl}
use Rattle.words_script.specs.declared.decl.Decl.TheVariants as decl
use Rattle.words_script.specs.declared.decl.Kind.TheVariants as kind
use Rattle.words_script.specs.declared.decl.Script.{Script}
use Rattle.rules_machine.specs.State.{Machine, Mutex, Wait, Waiting, nobody, waits_to_join}
use Rattle.rules_machine.specs.Threads.{mutex_at, no_mutex, no_queue, thread_at, thread_in, waiting_in}
use Rattle.rules_machine.specs.Waiters.{somebody_waits, waits_so}
use Rattle.rules_machine.specs.Declarations.{ThreadDecl, mutex_kind, named, queue_kind, threads_of}
use Rattle.rules_machine.specs.Mutexes.{leads_within, waits_for_mutex}
use Rattle.std.specs.Option.{option_map_or}
use Rattle.rules_machine.specs.Priorities.{mutex_waited}
use Rattle.rules_machine.specs.Semaphores.{waits_on_semaphore}
use Rattle.rules_machine.specs.Queues.{waits_to_send}
use Rattle.rules_machine.specs.Runs.{opening, thread_opened}
use Rattle.rules_machine.specs.GoodState.{OwnerIsRight, is_in_condition_wait}
use Rattle.rules_moves.proofs.Runs.Listed.{AllRun}
use Rattle.laws_machine.proofs.Parts.Kept.{PartsRight}

-- ---- nobody waits, and nobody joins

opened_waits : (P : Type 0) (ds : List ThreadDecl) (t : ℕ) → waiting_in (thread_in (map (λ (d : ThreadDecl). thread_opened {P = P} d) ds) t).status ≡ None
opened_waits P [] t = refl
opened_waits P (d ∷ ds) zero = refl
opened_waits P (d ∷ ds) (suc t) = opened_waits P ds t

opened_joiner : (P : Type 0) (ds : List ThreadDecl) (t : ℕ) → (thread_in (map (λ (d : ThreadDecl). thread_opened {P = P} d) ds) t).joiner ≡ nobody
opened_joiner P [] t = refl
opened_joiner P (d ∷ ds) zero = refl
opened_joiner P (d ∷ ds) (suc t) = opened_joiner P ds t

opened_nobody : (P : Type 0) (passes : Wait → Bool) (ds : List ThreadDecl) → list_any (waits_so passes) (map (λ (d : ThreadDecl). thread_opened {P = P} d) ds) ≡ false
opened_nobody P passes [] = refl
opened_nobody P passes (d ∷ ds) = opened_nobody P passes ds

-- ---- mutexes are free, and queues have no registration

abbrev IsFree : Mutex → Type 0
IsFree k = (k.owner ≡ None) × (k.count ≡ 0)

mutexes_free : (ds : List Decl) (k : ℕ) → IsFree (slice_index_or (filter_map (named mutex_kind) ds) k no_mutex)
mutexes_free [] k = (refl, refl)
mutexes_free (decl.Action signal handler ∷ ds) k = mutexes_free ds k
mutexes_free (decl.Named name (kind.Mutex protocol recursive) ∷ ds) zero = (refl, refl)
mutexes_free (decl.Named name (kind.Mutex protocol recursive) ∷ ds) (suc k) = mutexes_free ds k
mutexes_free (decl.Named name other ∷ ds) k = mutexes_free ds k

queues_empty : (ds : List Decl) (q : ℕ) → (slice_index_or (filter_map (named queue_kind) ds) q no_queue).messages ≡ []
queues_empty [] q = refl
queues_empty (decl.Action signal handler ∷ ds) q = queues_empty ds q
queues_empty (decl.Named name (kind.Queue depth longest nonblock) ∷ ds) zero = refl
queues_empty (decl.Named name (kind.Queue depth longest nonblock) ∷ ds) (suc q) = queues_empty ds q
queues_empty (decl.Named name other ∷ ds) q = queues_empty ds q

all_empty : {P : Type 0} (m : Machine P) (n : ℕ) → AllRun m (replicate n [])
all_empty m zero = tt
all_empty m (suc n) = (tt, all_empty m n)

contra : {b : Bool} → b ≡ true → b ≡ false → ⊥
contra p q = grind arith

no_joiner : (u : ℕ) → nobody ≡ waits_to_join u → ⊥
no_joiner u e = absurd (grind arith)

module _ (P : Type 0) (script : Script) where
  abbrev first : Machine P
  first = opening script

  nobody_at : (passes : Wait → Bool) → somebody_waits first passes ≡ false
  nobody_at passes = opened_nobody P passes (threads_of script)

  idle_at : (passes : Wait → Bool) (t : ℕ) → waits_so passes (thread_at first t) ≡ false
  idle_at passes t = ap (λ (o : Option Waiting). option_map_or (λ (w : Waiting). passes w.wait) o false) (opened_waits P (threads_of script) t)

  free_owner : (k : ℕ) → OwnerIsRight first k (mutex_at first k).owner
  free_owner k = let free = mutexes_free script.decls k in subst (λ (o : Option ℕ). OwnerIsRight first k o) (sym free.0) (free.1, nobody_at (waits_for_mutex k))

  no_wait_leads : (n t : ℕ) → leads_within first.threads first.mutexes n None t ≡ false
  no_wait_leads zero t = refl
  no_wait_leads (suc n) t = no_wait_leads n t

  pub opening_right : PartsRight first
  opening_right = record {
    joiners = λ t u e. absurd (no_joiner u (sym (opened_joiner P (threads_of script) t) ∙ e));
    semaphores = λ k w. absurd (contra w (nobody_at (waits_on_semaphore k)));
    queues = λ q. let none = queues_empty script.decls q in record { room = rw none (omega arith); receivers = λ w. none; senders = λ w. absurd (contra w (nobody_at (waits_to_send q))) };
    records = record { few = omega arith; one_of_timer = λ k. omega arith; one_of_queue = λ q. omega arith; free = λ q r e. refl };
    mutexes = record {
      owners = free_owner;
      no_cycle = λ t n. ap (λ (o : Option Waiting). leads_within first.threads first.mutexes n (option_and_then (λ (w : Waiting). mutex_waited w.wait) o) t) (opened_waits P (threads_of script) t) ∙ no_wait_leads n t;
      owns_none = λ t w. absurd (contra w (idle_at is_in_condition_wait t));
    };
  }

  pub opening_listed : AllRun first first.lists
  opening_listed = all_empty first 255
