-- The facts and the text of a carried machine are those of the machine.
use Rattle.std.proofs.Common.{Bool, List, None, Option, Some, [], ap, refl, ℕ, ◌∷◌, ◌≡◌}
use Rattle.std.specs.Prelude.{filter, filter_map, flat_map, map, not, slice_get, ◌++◌}
use mathlib.Core.Path.{ap₂, ◌∙◌}
use Rattle.words_script.specs.declared.decl.Script.{Script}
use Rattle.words_script.specs.declared.name_kind.NameKind.{NameKind}
use Rattle.words_script.specs.declared.name_kind.NameKind.TheVariants as kind
use Rattle.script_writer.specs.Names.{names_of}
use Rattle.rules_machine.specs.declared.frame.BodyOf.{BodyOf}
use Rattle.rules_machine.specs.Bodies.{Bodies}
use Rattle.rules_machine.specs.Conditions.{waits_on_condition}
use Rattle.rules_machine.specs.Delivery.{taken_by_sweep}
use Rattle.rules_machine.specs.Lists.{numbers}
use Rattle.rules_machine.specs.Mutexes.{waits_for_mutex}
use Rattle.rules_machine.specs.Queues.{waits_to_receive, waits_to_send}
use Rattle.rules_machine.specs.Semaphores.{waits_on_semaphore}
use Rattle.rules_machine.specs.State.{Machine, SignalRecord, Wait}
use Rattle.rules_machine.specs.Threads.{thread_numbers}
use Rattle.rules_machine.specs.Waiters.{Waiter, is_served_before}
use Rattle.rules_facts.specs.Fact.{Fact, Number, receivers_of, senders_of, waiters_of}
use Rattle.rules_facts.specs.Facts.{facts, facts_of_objects, facts_of_threads}
use Rattle.rules_facts.specs.Lists.{list_facts}
use Rattle.rules_facts.specs.Numbers.{machine_numbers, thread_numbers_told}
use Rattle.rules_facts.specs.Objects.{in_service_order, owner_fact, semaphore_fact, timer_fact}
use Rattle.rules_facts.specs.Order.{in_order}
use Rattle.rules_facts.specs.Queues.{messages_fact, registration_fact, senders_and_receivers}
use Rattle.rules_facts.specs.Shown.{ending_record, killed_line, once_ended, state_line, state_text, without_taken}
use Rattle.rules_facts.specs.Signals.{signal_fact}
use Rattle.rules_facts.specs.Spelled.{fact_line, is_empty, number_line}
use Rattle.rules_facts.specs.Threads.{cancelability_fact, cleanups_fact, frames_fact, mask_fact, pending_fact, thread_fact}
use Rattle.laws_places.specs.Carried.{Agree}
use Rattle.laws_places.proofs.CarriedReads.{M, numbers_carry, same_function, waiters_carry}
use Rattle.laws_places.proofs.CarriedTicks.{taken_by_sweep_carries}
use Rattle.laws_facts.proofs.CarriedThreads.{cancelability_fact_carries, cleanups_fact_carries, frames_fact_carries, mask_fact_carries, numbers_told_carry, pending_fact_carries, thread_fact_carries}

-- ---- rows one behind the other

same : (facts : List Fact) → facts ≡ facts
same facts = refl

infixl 4 ◌⊕◌
◌⊕◌ : {a' a b' b : List Fact} → a' ≡ a → b' ≡ b → a' ++ b' ≡ a ++ b
◌⊕◌ in_a in_b = ap₂ (λ (x y : List Fact). x ++ y) in_a in_b

-- ---- rows with the same facts

same_row : (row' row : ℕ → Fact) → ((n : ℕ) → row' n ≡ row n) → (ns' ns : List ℕ) → ns' ≡ ns → map row' ns' ≡ map row ns
same_row row' row same ns' ns numbers = ap₂ (λ (f : ℕ → Fact) (xs : List ℕ). map f xs) (same_function row' row same) numbers

same_rows : (rows' rows : ℕ → List Fact) → ((n : ℕ) → rows' n ≡ rows n) → (ns : List ℕ) → flat_map rows' ns ≡ flat_map rows ns
same_rows rows' rows same ns = ap (λ (f : ℕ → List Fact). flat_map f ns) (same_function rows' rows same)

module _ {P Q : Type 0} (carry : BodyOf → P → Q) where
  row_of_threads : (m : Machine P) (row' row : ℕ → Fact) → ((t : ℕ) → row' t ≡ row t) → map row' (thread_numbers (M carry m)) ≡ map row (thread_numbers m)
  row_of_threads m row' row same = same_row row' row same (thread_numbers (M carry m)) (thread_numbers m) (numbers_carry carry m)

  threads_carry : (m : Machine P) → facts_of_threads (M carry m) ≡ facts_of_threads m
  threads_carry m =
      let statuses = row_of_threads m (thread_fact (M carry m)) (thread_fact m) (thread_fact_carries carry m) in
      let frames = row_of_threads m (frames_fact (M carry m)) (frames_fact m) (frames_fact_carries carry m) in
      let masks = row_of_threads m (mask_fact (M carry m)) (mask_fact m) (mask_fact_carries carry m) in
      let cancels = row_of_threads m (cancelability_fact (M carry m)) (cancelability_fact m) (cancelability_fact_carries carry m) in
      let cleanups = row_of_threads m (cleanups_fact (M carry m)) (cleanups_fact m) (cleanups_fact_carries carry m) in
      let pending = row_of_threads m (pending_fact (M carry m)) (pending_fact m) (pending_fact_carries carry m) in
      statuses ⊕ frames ⊕ masks ⊕ cancels ⊕ cleanups ⊕ pending

  service_carries : (m : Machine P) (passes : Wait → Bool) → in_service_order (M carry m) passes ≡ in_service_order m passes
  service_carries m passes = ap (λ (ws : List Waiter). map (λ (w : Waiter). w.thread) (in_order is_served_before ws)) (waiters_carry carry m passes)

  row_of_waiters : (m : Machine P) (sort : NameKind) (passes : ℕ → Wait → Bool) (ns : List ℕ)
      → map (λ (k : ℕ). waiters_of sort k (in_service_order (M carry m) (passes k))) ns ≡ map (λ (k : ℕ). waiters_of sort k (in_service_order m (passes k))) ns
  row_of_waiters m sort passes ns =
      same_row (λ (k : ℕ). waiters_of sort k (in_service_order (M carry m) (passes k))) (λ (k : ℕ). waiters_of sort k (in_service_order m (passes k)))
      (λ k. ap (waiters_of sort k) (service_carries m (passes k))) ns ns refl

  queue_row_carries : (m : Machine P) (q : ℕ) → senders_and_receivers (M carry m) q ≡ senders_and_receivers m q
  queue_row_carries m q =
      ap₂ (λ (senders receivers : List ℕ). senders_of q senders ∷ receivers_of q receivers ∷ []) (service_carries m (waits_to_send q)) (service_carries m (waits_to_receive q))

  objects_carry : (script : Script) (m : Machine P) → facts_of_objects script (M carry m) ≡ facts_of_objects script m
  objects_carry script m =
      let mutexes = row_of_waiters m kind.Mutex waits_for_mutex (numbers m.mutexes) in
      let conditions = row_of_waiters m kind.Cond waits_on_condition (numbers (names_of kind.Cond script.decls)) in
      let semaphores = row_of_waiters m kind.Sem waits_on_semaphore (numbers m.semaphores) in
      let queues = same_rows (senders_and_receivers (M carry m)) (senders_and_receivers m) (queue_row_carries m) (numbers m.queues) in
      same (map (owner_fact m) (numbers m.mutexes)) ⊕ mutexes ⊕ conditions ⊕ semaphores ⊕ same (map (semaphore_fact m) (numbers m.semaphores))
      ⊕ same (map (messages_fact m) (numbers m.queues)) ⊕ queues ⊕ same (map (registration_fact m) (numbers m.queues))
      ⊕ same (map (timer_fact m) (numbers m.timers)) ⊕ same (map (signal_fact m) (numbers m.actions))

  pub facts_carry : (script : Script) (m : Machine P) → facts script (M carry m) ≡ facts script m
  facts_carry script m = same (list_facts m.lists) ⊕ (threads_carry m ⊕ objects_carry script m)

  numbers_told : (m : Machine P) → machine_numbers (M carry m) ≡ machine_numbers m
  numbers_told m =
      ap₂ (λ (f : ℕ → List Number) (ns : List ℕ). flat_map f ns)
      (same_function (thread_numbers_told (M carry m)) (thread_numbers_told m) (numbers_told_carry carry m)) (numbers_carry carry m)

  -- the text of a state
  pub text_carries : (script : Script) (m : Machine P) → state_text script (M carry m) ≡ state_text script m
  text_carries script m =
      ap₂ (λ (fs : List Fact) (ns : List Number). state_line m.now ++ killed_line m.killed
      ++ flat_map (fact_line script.decls) (filter (λ (f : Fact). not (is_empty script.decls f)) fs) ++ flat_map (number_line script.decls) ns)
      (facts_carry script m) (numbers_told m)

  -- ---- the record that ended the process

  module _ (p : Bodies P) (q : Bodies Q) (a : Agree carry p q) where
    ending_carries : (m : Machine P) → ending_record (M carry m) ≡ ending_record m
    ending_carries m =
        ap₂ (λ (f : ℕ → Option SignalRecord) (ts : List ℕ). slice_get (filter_map f ts) 0)
        (same_function (taken_by_sweep (M carry m)) (taken_by_sweep m) (taken_by_sweep_carries carry p q a m)) (numbers_carry carry m)

    without_taken_carries : (taken : Option SignalRecord) (m : Machine P) → without_taken taken (M carry m) ≡ M carry (without_taken taken m)
    without_taken_carries None m = refl
    without_taken_carries (Some r) m = refl

    pub once_ended_carries : (killed : Option ℕ) (m : Machine P) → once_ended killed (M carry m) ≡ M carry (once_ended killed m)
    once_ended_carries None m = refl
    once_ended_carries (Some signal) m =
        ap (λ (r : Option SignalRecord). without_taken r (M carry m)) (ending_carries m) ∙ without_taken_carries (ending_record m) m
