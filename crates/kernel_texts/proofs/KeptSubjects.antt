-- The texts of the subjects of a state's facts are those of its rows.
use Rattle.std.specs.List.{range_with_len}
use Rattle.std.specs.Prelude.{codes, decimal}
use Rattle.std.proofs.Common.{◌≡◌, ◌+◌, ◌-◌, ℕ, zero, suc, List, [], ◌∷◌, ◌++◌, ap, append-nil, arith, flat_map, length, map, refl, reverse, sym, ◌∙◌}
use Rattle.std.proofs.lemmas.Grind.{reverse_onto}
use Rattle.words_script.specs.declared.decl.Decl.{Decl}
use Rattle.words_script.specs.declared.decl.Script.{Script}
use Rattle.words_script.specs.declared.name_kind.NameKind.{NameKind}
use Rattle.words_script.specs.declared.name_kind.NameKind.TheVariants as kind
use Rattle.script_writer.specs.Names.{name_of, names_of}
use Rattle.rules_machine.specs.State.{Machine, Status, blocked, dormant, ended, runnable}
use Rattle.rules_machine.specs.Threads.{thread_at}
use Rattle.rules_facts.specs.Fact.{Fact, on_list}
use Rattle.rules_facts.specs.Facts.{facts, facts_of_objects, facts_of_threads}
use Rattle.rules_facts.specs.Lists.{list_facts, lists_from}
use Rattle.rules_facts.specs.Objects.{condition_waiters, mutex_waiters, owner_fact, semaphore_fact, semaphore_waiters, timer_fact}
use Rattle.rules_facts.specs.Queues.{messages_fact, registration_fact, senders_and_receivers}
use Rattle.rules_facts.specs.Signals.{signal_fact}
use Rattle.rules_facts.specs.Threads.{cancelability_fact, cleanups_fact, frames_fact, mask_fact, pending_fact, status_fact, thread_fact}
use Rattle.kernel_texts.specs.Changed.{subject_text}
use Rattle.kernel_texts.specs.Kept.{kept_below}
use Rattle.kernel_texts.specs.Subjects.{about, list_subjects, named_row, object_subjects, queue_subjects, signal_subjects, subjects_of, thread_subjects}
use Rattle.kernel_texts.proofs.KeptFacts.{kept_same, map_more, one_each, range_snoc}
use Rattle.kernel_texts.proofs.Ticks.{flat_map-append}

module _ (decls : List Decl) where
  -- rows of facts
  rows : (f : ℕ → List Fact) (n : ℕ) → subjects_of decls (flat_map f (range_with_len 0 n)) ≡ kept_below (λ (k : ℕ). subjects_of decls (f k)) n
  rows f zero = refl
  rows f (suc n) =
      let same : 0 + n ≡ n = omega arith in
      ap (λ (ns : List ℕ). subjects_of decls (flat_map f ns)) (range_snoc 0 n)
      ∙ ap (subjects_of decls) (flat_map-append f (range_with_len 0 n) ((0 + n) ∷ []))
      ∙ map_more (subject_text decls) (flat_map f (range_with_len 0 n)) (f (0 + n) ++ [])
      ∙ ap (λ (fs : List Fact). subjects_of decls (flat_map f (range_with_len 0 n)) ++ subjects_of decls fs) (append-nil (f (0 + n)) ∙ ap f same)
      ∙ ap (λ (t : List (List ℕ)). t ++ subjects_of decls (f n)) (rows f n)

  -- a row with these subjects
  row : (f : ℕ → Fact) (s : ℕ → List ℕ) → ((k : ℕ) → subject_text decls (f k) ≡ s k) → (n : ℕ) → subjects_of decls (map f (range_with_len 0 n)) ≡ kept_below (λ (k : ℕ). s k ∷ []) n
  row f s is n =
      ap (subjects_of decls) (one_each decls f (range_with_len 0 n))
      ∙ rows (λ (k : ℕ). f k ∷ []) n
      ∙ kept_same (λ (k : ℕ). subject_text decls (f k) ∷ []) (λ (k : ℕ). s k ∷ []) n (λ i lt. ap (λ (t : List ℕ). t ∷ []) (is i))

  both : (a b : List Fact) (s t : List (List ℕ)) → subjects_of decls a ≡ s → subjects_of decls b ≡ t → subjects_of decls (a ++ b) ≡ s ++ t
  both a b s t is_s is_t = map_more (subject_text decls) a b ∙ ap (λ (x : List (List ℕ)). x ++ subjects_of decls b) is_s ∙ ap (λ (x : List (List ℕ)). s ++ x) is_t

  -- ---- the lists

  abbrev list_row : ℕ → ℕ → List (List ℕ)
  list_row most n = kept_below (λ (i : ℕ). about (codes "list") (decimal (most - i)) ∷ []) n

  lists_below : (p : ℕ) (lists : List (List ℕ)) → subjects_of decls (reverse (lists_from (suc p) lists)) ≡ list_row (p + length lists) (length lists)
  lists_below p [] = refl
  lists_below p (x ∷ xs) =
      let n = length xs in
      let last : suc p ≡ p + suc n - n = omega arith in
      let next : suc p + 1 ≡ suc (suc p) = omega arith in
      let most : suc p + n ≡ p + suc n = omega arith in
      ap (subjects_of decls) (reverse_onto (lists_from (suc p + 1) xs) (on_list (suc p) x) [])
      ∙ both (reverse (lists_from (suc p + 1) xs)) (on_list (suc p) x ∷ []) (list_row (p + suc n) n) (about (codes "list") (decimal (p + suc n - n)) ∷ [])
      (ap (λ (k : ℕ). subjects_of decls (reverse (lists_from k xs))) next ∙ lists_below (suc p) xs ∙ ap (λ (k : ℕ). list_row k n) most)
      (ap (λ (k : ℕ). about (codes "list") (decimal k) ∷ []) last)

  lists_are : (lists : List (List ℕ)) → length lists ≡ 255 → subjects_of decls (list_facts lists) ≡ list_subjects
  lists_are lists count = lists_below 0 lists ∙ ap (λ (n : ℕ). list_row (0 + n) n) count

-- ---- rows of facts, one behind the other

record HaveSubjects (decls : List Decl) (fs : List Fact) (texts : List (List ℕ)) : Type 0 where
  same : subjects_of decls fs ≡ texts

infixl 4 ◌⊕◌
◌⊕◌ : {decls : List Decl} {a b : List Fact} {s t : List (List ℕ)} → HaveSubjects decls a s → HaveSubjects decls b t → HaveSubjects decls (a ++ b) (s ++ t)
◌⊕◌ {decls} {a} {b} {s} {t} in_a in_b = record { same = both decls a b s t in_a.same in_b.same }

module _ (decls : List Decl) where
  named : (keyword : List ℕ) (of : NameKind) (f : ℕ → Fact) → ((k : ℕ) → subject_text decls (f k) ≡ about keyword (name_of decls of k)) → (n : ℕ)
      → HaveSubjects decls (map f (range_with_len 0 n)) (named_row decls keyword of n)
  named keyword of f is n = record { same = row decls f (λ (k : ℕ). about keyword (name_of decls of k)) is n }

  module _ {P : Type 0} (m : Machine P) where
    by_status : (t : ℕ) (s : Status) → subject_text decls (status_fact m t s) ≡ about (codes "thread") (name_of decls kind.Thread t)
    by_status t (dormant at) = refl
    by_status t runnable = refl
    by_status t (blocked w) = refl
    by_status t ended = refl

    queues_have : (n : ℕ) → HaveSubjects decls (flat_map (senders_and_receivers m) (range_with_len 0 n)) (queue_subjects decls n)
    queues_have n = record { same = rows decls (senders_and_receivers m) n }

    signals_have : (n : ℕ) → HaveSubjects decls (map (signal_fact m) (range_with_len 0 n)) (signal_subjects n)
    signals_have n = record { same = row decls (signal_fact m) (λ (k : ℕ). subject_text decls (signal_fact m k)) (λ k. refl) n }

module _ {P : Type 0} (script : Script) (m : Machine P) where
  threads_have : HaveSubjects script.decls (facts_of_threads m) (thread_subjects script.decls (length m.threads))
  threads_have =
      let n = length m.threads in
      named script.decls (codes "thread") kind.Thread (thread_fact m) (λ t. by_status script.decls m t (thread_at m t).status) n
      ⊕ named script.decls (codes "frames") kind.Thread (frames_fact m) (λ t. refl) n
      ⊕ named script.decls (codes "mask") kind.Thread (mask_fact m) (λ t. refl) n
      ⊕ named script.decls (codes "cancelability") kind.Thread (cancelability_fact m) (λ t. refl) n
      ⊕ named script.decls (codes "cleanups") kind.Thread (cleanups_fact m) (λ t. refl) n
      ⊕ named script.decls (codes "pending") kind.Thread (pending_fact m) (λ t. refl) n

  objects_have : HaveSubjects script.decls (facts_of_objects script m) (object_subjects script.decls m ++ signal_subjects (length m.actions))
  objects_have =
      named script.decls (codes "mutex") kind.Mutex (owner_fact m) (λ k. refl) (length m.mutexes)
      ⊕ named script.decls (codes "waiters") kind.Mutex (mutex_waiters m) (λ k. refl) (length m.mutexes)
      ⊕ named script.decls (codes "waiters") kind.Cond (condition_waiters m) (λ k. refl) (length (names_of kind.Cond script.decls))
      ⊕ named script.decls (codes "waiters") kind.Sem (semaphore_waiters m) (λ k. refl) (length m.semaphores)
      ⊕ named script.decls (codes "sem") kind.Sem (semaphore_fact m) (λ k. refl) (length m.semaphores)
      ⊕ named script.decls (codes "messages") kind.Queue (messages_fact m) (λ k. refl) (length m.queues)
      ⊕ queues_have script.decls m (length m.queues)
      ⊕ named script.decls (codes "notify") kind.Queue (registration_fact m) (λ k. refl) (length m.queues)
      ⊕ named script.decls (codes "timer") kind.Timer (timer_fact m) (λ k. refl) (length m.timers)
      ⊕ signals_have script.decls m (length m.actions)

  lists_have : length m.lists ≡ 255 → HaveSubjects script.decls (list_facts m.lists) list_subjects
  lists_have every = record { same = lists_are script.decls m.lists every }

  all_have : length m.lists ≡ 255 → HaveSubjects script.decls (facts script m)
      (list_subjects ++ (thread_subjects script.decls (length m.threads) ++ (object_subjects script.decls m ++ signal_subjects (length m.actions))))
  all_have every = lists_have every ⊕ (threads_have ⊕ objects_have)

-- the subjects of the facts of a state, row by row
pub subjects_kept : {P : Type 0} (script : Script) (m : Machine P) → length m.lists ≡ 255 → length m.actions ≡ 32
    → list_subjects ++ (thread_subjects script.decls (length m.threads) ++ (object_subjects script.decls m ++ signal_subjects 32)) ≡ subjects_of script.decls (facts script m)
subjects_kept script m every signals =
    ap (λ (n : ℕ). list_subjects ++ (thread_subjects script.decls (length m.threads) ++ (object_subjects script.decls m ++ signal_subjects n))) (sym signals)
    ∙ sym (all_have script m every).same
