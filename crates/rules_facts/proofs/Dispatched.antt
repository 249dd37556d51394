-- The head of the first list that is told is the thread to which the processor is given.
use Rattle.std.proofs.Common.{List, None, Option, Some, [], ap, refl, ℕ, ◌+◌, ◌∙◌, ◌∷◌, ◌++◌, ◌≡◌}
use Rattle.std.specs.Prelude.{filter_map, flat_map, map, reverse, slice_get}
use Rattle.std.specs.List.{cons_option}
use Rattle.std.specs.Option.{option_or}
use Rattle.std.proofs.lemmas.List.Elements.{filter_map-append}
use Rattle.std.proofs.lemmas.Grind.{reverse_onto}
use Rattle.words_script.specs.declared.decl.Script.{Script}
use Rattle.words_script.specs.declared.name_kind.NameKind.TheVariants as kind
use Rattle.script_writer.specs.Names.{names_of}
use Rattle.rules_lists.specs.Lists.{highest}
use Rattle.rules_machine.specs.Dispatch.{head}
use Rattle.rules_machine.specs.Lists.{numbers}
use Rattle.rules_machine.specs.State.{Machine, SignalRecord, Status, blocked, dormant, ended, runnable}
use Rattle.rules_machine.specs.Threads.{thread_at, thread_numbers}
use Rattle.rules_facts.specs.Fact.{Fact, on_list}
use Rattle.rules_facts.specs.Facts.{facts, facts_of_objects, facts_of_threads}
use Rattle.rules_facts.specs.Lists.{list_facts, lists_from}
use Rattle.rules_facts.specs.Objects.{condition_waiters, mutex_waiters, owner_fact, semaphore_fact, semaphore_waiters, timer_fact}
use Rattle.rules_facts.specs.Queues.{messages_fact, registration_fact, senders_and_receivers}
use Rattle.rules_facts.specs.Shown.{ending_record, machine_at, once_ended, without_taken}
use Rattle.rules_facts.specs.Signals.{signal_fact}
use Rattle.rules_facts.specs.Threads.{cancelability_fact, cleanups_fact, frames_fact, mask_fact, pending_fact, status_fact, thread_fact}
use Rattle.rules_facts.specs.Told.{ShowsHead, first_told, head_told}

-- ---- the first of two lists, one behind the other

or_none : {X : Type 0} (a : Option X) → option_or a None ≡ a
or_none None = refl
or_none (Some x) = refl

first_of_append : {X : Type 0} (xs ys : List X) → slice_get (xs ++ ys) 0 ≡ option_or (slice_get xs 0) (slice_get ys 0)
first_of_append [] ys = refl
first_of_append (x ∷ xs) ys = refl

first_of_cons : {X : Type 0} (o : Option X) (xs : List X) → slice_get (cons_option o xs) 0 ≡ option_or o (slice_get xs 0)
first_of_cons None xs = refl
first_of_cons (Some x) xs = refl

first_told-append : (a b : List Fact) → first_told (a ++ b) ≡ option_or (first_told a) (first_told b)
first_told-append a b =
    ap (λ (heads : List ℕ). slice_get heads 0) (filter_map-append head_told a b) ∙ first_of_append (filter_map head_told a) (filter_map head_told b)

-- ---- the rows that tell no list

record TellsNoList (told : List Fact) : Type 0 where
  none : first_told told ≡ None

infixl 4 ◌⊕◌
◌⊕◌ : {a b : List Fact} → TellsNoList a → TellsNoList b → TellsNoList (a ++ b)
◌⊕◌ {a} {b} in_a in_b =
    record { none = first_told-append a b ∙ (ap (λ (first : Option ℕ). option_or first (first_told b)) in_a.none ∙ in_b.none) }

none_of_cons : (f : Fact) (fs : List Fact) → head_told f ≡ None → first_told fs ≡ None → first_told (f ∷ fs) ≡ None
none_of_cons f fs none others =
    first_of_cons (head_told f) (filter_map head_told fs) ∙ (ap (λ (first : Option ℕ). option_or first (first_told fs)) none ∙ others)

none_in_row : (fact : ℕ → Fact) → ((n : ℕ) → head_told (fact n) ≡ None) → (ns : List ℕ) → TellsNoList (map fact ns)
none_in_row fact none [] = record { none = refl }
none_in_row fact none (n ∷ ns) = record { none = none_of_cons (fact n) (map fact ns) (none n) (none_in_row fact none ns).none }

none_in_rows : (row : ℕ → List Fact) → ((n : ℕ) → TellsNoList (row n)) → (ns : List ℕ) → TellsNoList (flat_map row ns)
none_in_rows row none [] = record { none = refl }
none_in_rows row none (n ∷ ns) = none n ⊕ none_in_rows row none ns

none_of_status : {P : Type 0} (m : Machine P) (t : ℕ) (status : Status) → head_told (status_fact m t status) ≡ None
none_of_status m t (dormant at) = refl
none_of_status m t runnable = refl
none_of_status m t (blocked w) = refl
none_of_status m t ended = refl

module _ {P : Type 0} (m : Machine P) where
  none_of_threads : TellsNoList (facts_of_threads m)
  none_of_threads =
      none_in_row (thread_fact m) (λ t. none_of_status m t (thread_at m t).status) (thread_numbers m)
      ⊕ none_in_row (frames_fact m) (λ t. refl) (thread_numbers m)
      ⊕ none_in_row (mask_fact m) (λ t. refl) (thread_numbers m)
      ⊕ none_in_row (cancelability_fact m) (λ t. refl) (thread_numbers m)
      ⊕ none_in_row (cleanups_fact m) (λ t. refl) (thread_numbers m)
      ⊕ none_in_row (pending_fact m) (λ t. refl) (thread_numbers m)

  none_of_objects : (script : Script) → TellsNoList (facts_of_objects script m)
  none_of_objects script =
      none_in_row (owner_fact m) (λ k. refl) (numbers m.mutexes)
      ⊕ none_in_row (mutex_waiters m) (λ k. refl) (numbers m.mutexes)
      ⊕ none_in_row (condition_waiters m) (λ c. refl) (numbers (names_of kind.Cond script.decls))
      ⊕ none_in_row (semaphore_waiters m) (λ k. refl) (numbers m.semaphores)
      ⊕ none_in_row (semaphore_fact m) (λ k. refl) (numbers m.semaphores)
      ⊕ none_in_row (messages_fact m) (λ q. refl) (numbers m.queues)
      ⊕ none_in_rows (senders_and_receivers m) (λ q. record { none = refl }) (numbers m.queues)
      ⊕ none_in_row (registration_fact m) (λ q. refl) (numbers m.queues)
      ⊕ none_in_row (timer_fact m) (λ k. refl) (numbers m.timers)
      ⊕ none_in_row (signal_fact m) (λ signal. refl) (numbers m.actions)

-- ---- the row of lists

first_of_lists : (p : ℕ) (lists : List (List ℕ)) → first_told (reverse (lists_from p lists)) ≡ highest lists
first_of_lists p [] = refl
first_of_lists p (threads ∷ lists) =
    ap first_told (reverse_onto (lists_from (p + 1) lists) (on_list p threads) [])
    ∙ (first_told-append (reverse (lists_from (p + 1) lists)) (on_list p threads ∷ [])
    ∙ (ap (λ (o : Option ℕ). option_or o (first_told (on_list p threads ∷ []))) (first_of_lists (p + 1) lists)
    ∙ ap (option_or (highest lists)) (first_of_cons (slice_get threads 0) [] ∙ or_none (slice_get threads 0))))

pub head_is_told : {P : Type 0} (script : Script) (m : Machine P) → first_told (facts script m) ≡ head m
head_is_told script m =
    first_told-append (list_facts m.lists) (facts_of_threads m ++ facts_of_objects script m)
    ∙ (ap (option_or (first_told (list_facts m.lists))) (none_of_threads m ⊕ none_of_objects m script).none
    ∙ (or_none (first_told (list_facts m.lists)) ∙ first_of_lists 1 m.lists))

-- ---- the state that is shown

head_without_taken : {P : Type 0} (taken : Option SignalRecord) (m : Machine P) → head (without_taken taken m) ≡ head m
head_without_taken None m = refl
head_without_taken (Some r) m = refl

head_once_ended : {P : Type 0} (killed : Option ℕ) (m : Machine P) → head (once_ended killed m) ≡ head m
head_once_ended None m = refl
head_once_ended (Some signal) m = head_without_taken (ending_record m) m

pub shows_head : (script : Script) (n : ℕ) → ShowsHead script n
shows_head script n =
    head_is_told script (once_ended (machine_at script n).killed (machine_at script n)) ∙ head_once_ended (machine_at script n).killed (machine_at script n)
