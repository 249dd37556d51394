-- Facts of machines of the same sizes have the same subjects.
use Rattle.std.proofs.Common.{List, [], ap, arith, flat_map, length, map, refl, reverse, sym, ℕ, ◌+◌, ◌++◌, ◌∷◌, ◌≡◌}
use Rattle.std.specs.List.{range_with_len}
use Rattle.std.proofs.lemmas.Grind.{reverse_onto}
use mathlib.Core.Path.{ap₂, ◌∙◌}
use Rattle.words_script.specs.declared.decl.Decl.{Decl}
use Rattle.words_script.specs.declared.decl.Script.{Script}
use Rattle.words_script.specs.declared.name_kind.NameKind.TheVariants as kind
use Rattle.script_writer.specs.Canon.{Words}
use Rattle.script_writer.specs.Names.{names_of}
use Rattle.rules_machine.specs.State.{Machine, Status, blocked, dormant, ended, runnable}
use Rattle.rules_machine.specs.Threads.{thread_at}
use Rattle.rules_facts.specs.Fact.{Fact, on_list}
use Rattle.rules_facts.specs.Facts.{facts, facts_of_objects, facts_of_threads}
use Rattle.rules_facts.specs.Lists.{list_facts, lists_from}
use Rattle.rules_facts.specs.Objects.{condition_waiters, mutex_waiters, owner_fact, semaphore_fact, semaphore_waiters, timer_fact}
use Rattle.rules_facts.specs.Queues.{messages_fact, registration_fact, senders_and_receivers}
use Rattle.rules_facts.specs.Signals.{signal_fact}
use Rattle.rules_facts.specs.Spelled.{subject}
use Rattle.rules_facts.specs.Threads.{cancelability_fact, cleanups_fact, frames_fact, mask_fact, pending_fact, status_fact, thread_fact}
use Rattle.laws_detail.specs.Subjects.{HaveSameSizes, HaveSameSubjects}

map_more : {X Y : Type 0} (f : X → Y) (xs ys : List X) → map f (xs ++ ys) ≡ map f xs ++ map f ys
map_more f [] ys = refl
map_more {X} {Y} f (x ∷ xs) ys = ap (λ (zs : List Y). f x ∷ zs) (map_more f xs ys)

module _ (decls : List Decl) where
  abbrev about : Fact → Words
  about = subject decls

  abbrev Same : List Fact → List Fact → Type 0
  Same fs gs = map about fs ≡ map about gs

  -- one row behind the other
  both : (a b c d : List Fact) → Same a c → Same b d → Same (a ++ b) (c ++ d)
  both a b c d e f = map_more about a b ∙ ap₂ (λ (xs ys : List Words). xs ++ ys) e f ∙ sym (map_more about c d)

  -- a row of facts
  row_by : (f g : ℕ → Fact) → ((k : ℕ) → about (f k) ≡ about (g k)) → (ns : List ℕ) → Same (map f ns) (map g ns)
  row_by f g h [] = refl
  row_by f g h (n ∷ ns) = ap₂ (λ (w : Words) (ws : List Words). w ∷ ws) (h n) (row_by f g h ns)

  row : (f g : ℕ → Fact) → ((k : ℕ) → about (f k) ≡ about (g k)) → (a b : ℕ) → a ≡ b → Same (map f (range_with_len 0 a)) (map g (range_with_len 0 b))
  row f g h a b e = row_by f g h (range_with_len 0 a) ∙ ap (λ (n : ℕ). map about (map g (range_with_len 0 n))) e

  rows_by : (f g : ℕ → List Fact) → ((k : ℕ) → Same (f k) (g k)) → (ns : List ℕ) → Same (flat_map f ns) (flat_map g ns)
  rows_by f g h [] = refl
  rows_by f g h (n ∷ ns) = both (f n) (flat_map f ns) (g n) (flat_map g ns) (h n) (rows_by f g h ns)

  rows : (f g : ℕ → List Fact) → ((k : ℕ) → Same (f k) (g k)) → (a b : ℕ) → a ≡ b → Same (flat_map f (range_with_len 0 a)) (flat_map g (range_with_len 0 b))
  rows f g h a b e = rows_by f g h (range_with_len 0 a) ∙ ap (λ (n : ℕ). map about (flat_map g (range_with_len 0 n))) e

  -- the lists
  lists_same : (p : ℕ) (xs ys : List (List ℕ)) → length xs ≡ length ys → Same (reverse (lists_from p xs)) (reverse (lists_from p ys))
  lists_same p [] [] e = refl
  lists_same p [] (y ∷ ys) e = absurd (omega arith)
  lists_same p (x ∷ xs) [] e = absurd (omega arith)
  lists_same p (x ∷ xs) (y ∷ ys) e =
      ap (map about) (reverse_onto (lists_from (p + 1) xs) (on_list p x) [])
      ∙ both (reverse (lists_from (p + 1) xs)) (on_list p x ∷ []) (reverse (lists_from (p + 1) ys)) (on_list p y ∷ []) (lists_same (p + 1) xs ys (omega arith)) refl
      ∙ sym (ap (map about) (reverse_onto (lists_from (p + 1) ys) (on_list p y) []))

  module _ {P : Type 0} (m n : Machine P) where
    of_status : (t : ℕ) (a b : Status) → about (status_fact m t a) ≡ about (status_fact n t b)
    of_status t (dormant x) (dormant y) = refl
    of_status t (dormant x) runnable = refl
    of_status t (dormant x) (blocked w) = refl
    of_status t (dormant x) ended = refl
    of_status t runnable (dormant y) = refl
    of_status t runnable runnable = refl
    of_status t runnable (blocked w) = refl
    of_status t runnable ended = refl
    of_status t (blocked v) (dormant y) = refl
    of_status t (blocked v) runnable = refl
    of_status t (blocked v) (blocked w) = refl
    of_status t (blocked v) ended = refl
    of_status t ended (dormant y) = refl
    of_status t ended runnable = refl
    of_status t ended (blocked w) = refl
    of_status t ended ended = refl

    of_thread : (t : ℕ) → about (thread_fact m t) ≡ about (thread_fact n t)
    of_thread t = of_status t (thread_at m t).status (thread_at n t).status

-- two lists of facts with the same subjects
record SameAbout (decls : List Decl) (a c : List Fact) : Type 0 where
  same : map (subject decls) a ≡ map (subject decls) c

infixl 4 ◌⊕◌
◌⊕◌ : {decls : List Decl} {a b c d : List Fact} → SameAbout decls a c → SameAbout decls b d → SameAbout decls (a ++ b) (c ++ d)
◌⊕◌ {decls} {a} {b} {c} {d} e f = record { same = both decls a b c d e.same f.same }

module _ (decls : List Decl) where
  a_row : (f g : ℕ → Fact) → ((k : ℕ) → subject decls (f k) ≡ subject decls (g k)) → (a b : ℕ) → a ≡ b → SameAbout decls (map f (range_with_len 0 a)) (map g (range_with_len 0 b))
  a_row f g h a b e = record { same = row decls f g h a b e }

  some_rows : (f g : ℕ → List Fact) → ((k : ℕ) → map (subject decls) (f k) ≡ map (subject decls) (g k)) → (a b : ℕ) → a ≡ b
      → SameAbout decls (flat_map f (range_with_len 0 a)) (flat_map g (range_with_len 0 b))
  some_rows f g h a b e = record { same = rows decls f g h a b e }

module _ {P : Type 0} (script : Script) (m n : Machine P) (same : HaveSameSizes m n) where
  threads_same : SameAbout script.decls (facts_of_threads m) (facts_of_threads n)
  threads_same =
      let a = length m.threads in
      let b = length n.threads in
      a_row script.decls (thread_fact m) (thread_fact n) (of_thread script.decls m n) a b same.threads
      ⊕ a_row script.decls (frames_fact m) (frames_fact n) (λ t. refl) a b same.threads
      ⊕ a_row script.decls (mask_fact m) (mask_fact n) (λ t. refl) a b same.threads
      ⊕ a_row script.decls (cancelability_fact m) (cancelability_fact n) (λ t. refl) a b same.threads
      ⊕ a_row script.decls (cleanups_fact m) (cleanups_fact n) (λ t. refl) a b same.threads
      ⊕ a_row script.decls (pending_fact m) (pending_fact n) (λ t. refl) a b same.threads

  objects_same : SameAbout script.decls (facts_of_objects script m) (facts_of_objects script n)
  objects_same =
      let conditions = length (names_of kind.Cond script.decls) in
      a_row script.decls (owner_fact m) (owner_fact n) (λ k. refl) (length m.mutexes) (length n.mutexes) same.mutexes
      ⊕ a_row script.decls (mutex_waiters m) (mutex_waiters n) (λ k. refl) (length m.mutexes) (length n.mutexes) same.mutexes
      ⊕ a_row script.decls (condition_waiters m) (condition_waiters n) (λ k. refl) conditions conditions refl
      ⊕ a_row script.decls (semaphore_waiters m) (semaphore_waiters n) (λ k. refl) (length m.semaphores) (length n.semaphores) same.semaphores
      ⊕ a_row script.decls (semaphore_fact m) (semaphore_fact n) (λ k. refl) (length m.semaphores) (length n.semaphores) same.semaphores
      ⊕ a_row script.decls (messages_fact m) (messages_fact n) (λ k. refl) (length m.queues) (length n.queues) same.queues
      ⊕ some_rows script.decls (senders_and_receivers m) (senders_and_receivers n) (λ k. refl) (length m.queues) (length n.queues) same.queues
      ⊕ a_row script.decls (registration_fact m) (registration_fact n) (λ k. refl) (length m.queues) (length n.queues) same.queues
      ⊕ a_row script.decls (timer_fact m) (timer_fact n) (λ k. refl) (length m.timers) (length n.timers) same.timers
      ⊕ a_row script.decls (signal_fact m) (signal_fact n) (λ k. refl) (length m.actions) (length n.actions) same.actions

  lists_about : SameAbout script.decls (list_facts m.lists) (list_facts n.lists)
  lists_about = record { same = lists_same script.decls 1 m.lists n.lists same.lists }

  all_about : SameAbout script.decls (facts script m) (facts script n)
  all_about = lists_about ⊕ (threads_same ⊕ objects_same)

  pub subjects_same : HaveSameSubjects script m n
  subjects_same = all_about.same
