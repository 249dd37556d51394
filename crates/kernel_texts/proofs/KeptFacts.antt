-- The texts of the facts of a state are those of its rows.
use Rattle.std.specs.List.{range_with_len}
use Rattle.std.specs.Prelude.{slice_index_or}
use Rattle.std.proofs.Common.{◌≡◌, ◌<◌, ◌+◌, ◌-◌, ℕ, zero, suc, List, [], ◌∷◌, ◌++◌, ap, append-nil, arith, flat_map, length, map, refl, reverse, sym, ◌∙◌}
use Rattle.std.proofs.lemmas.Grind.{reverse_onto}
use Rattle.words_script.specs.declared.decl.Decl.{Decl}
use Rattle.words_script.specs.declared.decl.Script.{Script}
use Rattle.words_script.specs.declared.name_kind.NameKind.TheVariants as kind
use Rattle.script_writer.specs.Names.{names_of}
use Rattle.rules_machine.specs.State.{Machine}
use Rattle.rules_facts.specs.Fact.{Fact, on_list}
use Rattle.rules_facts.specs.Facts.{facts, facts_of_objects, facts_of_threads}
use Rattle.rules_facts.specs.Lists.{list_facts, lists_from}
use Rattle.rules_facts.specs.Objects.{condition_waiters, mutex_waiters, owner_fact, semaphore_fact, semaphore_waiters, timer_fact}
use Rattle.rules_facts.specs.Queues.{messages_fact, registration_fact, senders_and_receivers}
use Rattle.rules_facts.specs.Shown.{once_ended}
use Rattle.rules_facts.specs.Signals.{signal_fact}
use Rattle.rules_facts.specs.Threads.{cancelability_fact, cleanups_fact, frames_fact, mask_fact, pending_fact, thread_fact}
use Rattle.kernel_texts.specs.Lines.{fact_text, facts_text}
use Rattle.kernel_texts.specs.Rows.{left_out, list_text}
use Rattle.kernel_texts.specs.Kept.{kept_below, lists_kept, objects_kept, signals_kept, texts_of, threads_kept}
use Rattle.kernel_texts.specs.Picked.{left_in}
use Rattle.kernel_texts.proofs.Ticks.{flat_map-append}
use Rattle.kernel_texts.proofs.Whole.{ended_state}

pub map_more : {X Y : Type 0} (f : X → Y) (xs ys : List X) → map f (xs ++ ys) ≡ map f xs ++ map f ys
map_more f [] ys = refl
map_more {X} {Y} f (x ∷ xs) ys = ap (λ (zs : List Y). f x ∷ zs) (map_more f xs ys)

pub range_snoc : (a n : ℕ) → range_with_len a (suc n) ≡ range_with_len a n ++ (a + n) ∷ []
range_snoc a zero = let same : a ≡ a + 0 = omega arith in ap (λ (k : ℕ). k ∷ []) same
range_snoc a (suc n) =
    let over : a + 1 + n ≡ a + suc n = omega arith in
    ap (λ (t : List ℕ). a ∷ t) (range_snoc (a + 1) n ∙ ap (λ (k : ℕ). range_with_len (a + 1) n ++ k ∷ []) over)

pub kept_same : (f g : ℕ → List (List ℕ)) (n : ℕ) → ((i : ℕ) → i < n → f i ≡ g i) → kept_below f n ≡ kept_below g n
kept_same f g zero same = refl
kept_same f g (suc n) same =
    ap (λ (t : List (List ℕ)). t ++ f n) (kept_same f g n (λ i lt. same i (omega arith))) ∙ ap (λ (t : List (List ℕ)). kept_below g n ++ t) (same n (omega arith))

module _ (decls : List Decl) where
  -- rows of facts
  rows : (f : ℕ → List Fact) (n : ℕ) → texts_of decls (flat_map f (range_with_len 0 n)) ≡ kept_below (λ (k : ℕ). texts_of decls (f k)) n
  rows f zero = refl
  rows f (suc n) =
      let same : 0 + n ≡ n = omega arith in
      ap (λ (ns : List ℕ). texts_of decls (flat_map f ns)) (range_snoc 0 n)
      ∙ ap (texts_of decls) (flat_map-append f (range_with_len 0 n) ((0 + n) ∷ []))
      ∙ map_more (fact_text decls) (flat_map f (range_with_len 0 n)) (f (0 + n) ++ [])
      ∙ ap (λ (fs : List Fact). texts_of decls (flat_map f (range_with_len 0 n)) ++ texts_of decls fs) (append-nil (f (0 + n)) ∙ ap f same)
      ∙ ap (λ (t : List (List ℕ)). t ++ texts_of decls (f n)) (rows f n)

  pub one_each : (f : ℕ → Fact) (ns : List ℕ) → map f ns ≡ flat_map (λ (k : ℕ). f k ∷ []) ns
  one_each f [] = refl
  one_each f (n ∷ ns) = ap (λ (fs : List Fact). f n ∷ fs) (one_each f ns)

  row : (f : ℕ → Fact) (n : ℕ) → texts_of decls (map f (range_with_len 0 n)) ≡ kept_below (λ (k : ℕ). fact_text decls (f k) ∷ []) n
  row f n = ap (texts_of decls) (one_each f (range_with_len 0 n)) ∙ rows (λ (k : ℕ). f k ∷ []) n

  -- the same, each as the text of a list of one
  row_of_one : (f : ℕ → Fact) (n : ℕ) → texts_of decls (map f (range_with_len 0 n)) ≡ kept_below (λ (k : ℕ). facts_text decls (f k ∷ []) ∷ []) n
  row_of_one f n =
      row f n ∙ kept_same (λ (k : ℕ). fact_text decls (f k) ∷ []) (λ (k : ℕ). facts_text decls (f k ∷ []) ∷ []) n
      (λ i lt. ap (λ (t : List ℕ). t ∷ []) (sym (append-nil (fact_text decls (f i)))))

  both : (a b : List Fact) (s t : List (List ℕ)) → texts_of decls a ≡ s → texts_of decls b ≡ t → texts_of decls (a ++ b) ≡ s ++ t
  both a b s t is_s is_t = map_more (fact_text decls) a b ∙ ap (λ (x : List (List ℕ)). x ++ texts_of decls b) is_s ∙ ap (λ (x : List (List ℕ)). s ++ x) is_t

  -- ---- the lists

  list_at_place : (n p : ℕ) (x : List ℕ) (xs : List (List ℕ)) (i : ℕ) → i < n
      → fact_text decls (on_list (suc p + n - i) (slice_index_or xs (n - 1 - i) [])) ∷ [] ≡ fact_text decls (on_list (p + suc n - i) (slice_index_or (x ∷ xs) (suc n - 1 - i) [])) ∷ []
  list_at_place n p x xs i lt =
      let level : suc p + n - i ≡ p + suc n - i = omega arith in
      let place : suc n - 1 - i ≡ suc (n - 1 - i) = omega arith in
      ap (λ (k : ℕ). fact_text decls (on_list k (slice_index_or xs (n - 1 - i) [])) ∷ []) level
      ∙ sym (ap (λ (k : ℕ). fact_text decls (on_list (p + suc n - i) (slice_index_or (x ∷ xs) k [])) ∷ []) place)

  lists_below : (p : ℕ) (lists : List (List ℕ)) → texts_of decls (reverse (lists_from (suc p) lists))
      ≡ kept_below (λ (i : ℕ). fact_text decls (on_list (p + length lists - i) (slice_index_or lists (length lists - 1 - i) [])) ∷ []) (length lists)
  lists_below p [] = refl
  lists_below p (x ∷ xs) =
      let n = length xs in
      let last_level : p + suc n - n ≡ suc p = omega arith in
      let last_place : suc n - 1 - n ≡ 0 = omega arith in
      let next : suc p + 1 ≡ suc (suc p) = omega arith in
      ap (texts_of decls) (reverse_onto (lists_from (suc p + 1) xs) (on_list (suc p) x) [])
      ∙ both (reverse (lists_from (suc p + 1) xs)) (on_list (suc p) x ∷ []) _ _
      (ap (λ (k : ℕ). texts_of decls (reverse (lists_from k xs))) next ∙ lists_below (suc p) xs ∙ kept_same _ _ n (λ i lt. list_at_place n p x xs i lt))
      (sym (ap (λ (k : ℕ). fact_text decls (on_list k (slice_index_or (x ∷ xs) (suc n - 1 - n) [])) ∷ []) last_level
      ∙ ap (λ (k : ℕ). fact_text decls (on_list (suc p) (slice_index_or (x ∷ xs) k [])) ∷ []) last_place))

  lists_are : (lists : List (List ℕ)) → length lists ≡ 255 → texts_of decls (list_facts lists) ≡ lists_kept decls lists
  lists_are lists count =
      lists_below 0 lists
      ∙ ap (λ (n : ℕ). kept_below (λ (i : ℕ). fact_text decls (on_list (0 + n - i) (slice_index_or lists (n - 1 - i) [])) ∷ []) n) count
      ∙ kept_same _ (λ (i : ℕ). list_text decls 255 lists i ∷ []) 255 (λ i lt. let level : 0 + 255 - i ≡ 255 - i = omega arith in let place : 255 - 1 - i ≡ 255 - i - 1 = omega arith in
      ap (λ (k : ℕ). fact_text decls (on_list k (slice_index_or lists (255 - 1 - i) [])) ∷ []) level
      ∙ ap (λ (k : ℕ). fact_text decls (on_list (255 - i) (slice_index_or lists k [])) ∷ []) place)

-- ---- rows of facts, one behind the other

record HaveTexts (decls : List Decl) (fs : List Fact) (texts : List (List ℕ)) : Type 0 where
  same : texts_of decls fs ≡ texts

infixl 4 ◌⊕◌
◌⊕◌ : {decls : List Decl} {a b : List Fact} {s t : List (List ℕ)} → HaveTexts decls a s → HaveTexts decls b t → HaveTexts decls (a ++ b) (s ++ t)
◌⊕◌ {decls} {a} {b} {s} {t} in_a in_b = record { same = both decls a b s t in_a.same in_b.same }

module _ (decls : List Decl) where
  one_of : (f : ℕ → Fact) (n : ℕ) → HaveTexts decls (map f (range_with_len 0 n)) (kept_below (λ (k : ℕ). fact_text decls (f k) ∷ []) n)
  one_of f n = record { same = row decls f n }

  list_of_one : (f : ℕ → Fact) (n : ℕ) → HaveTexts decls (map f (range_with_len 0 n)) (kept_below (λ (k : ℕ). facts_text decls (f k ∷ []) ∷ []) n)
  list_of_one f n = record { same = row_of_one decls f n }

  list_of_facts : (f : ℕ → List Fact) (n : ℕ) → HaveTexts decls (flat_map f (range_with_len 0 n)) (kept_below (λ (k : ℕ). texts_of decls (f k)) n)
  list_of_facts f n = record { same = rows decls f n }

module _ {P : Type 0} (script : Script) (m : Machine P) where
  threads_are : HaveTexts script.decls (facts_of_threads m) (threads_kept script.decls m)
  threads_are =
      let n = length m.threads in
      one_of script.decls (thread_fact m) n
      ⊕ one_of script.decls (frames_fact m) n
      ⊕ one_of script.decls (mask_fact m) n
      ⊕ one_of script.decls (cancelability_fact m) n
      ⊕ one_of script.decls (cleanups_fact m) n
      ⊕ one_of script.decls (pending_fact m) n

  objects_are : HaveTexts script.decls (facts_of_objects script m) (objects_kept script.decls m ++ signals_kept script.decls m (length m.actions))
  objects_are =
      list_of_one script.decls (owner_fact m) (length m.mutexes)
      ⊕ list_of_one script.decls (mutex_waiters m) (length m.mutexes)
      ⊕ list_of_one script.decls (condition_waiters m) (length (names_of kind.Cond script.decls))
      ⊕ list_of_one script.decls (semaphore_waiters m) (length m.semaphores)
      ⊕ list_of_one script.decls (semaphore_fact m) (length m.semaphores)
      ⊕ list_of_one script.decls (messages_fact m) (length m.queues)
      ⊕ list_of_facts script.decls (senders_and_receivers m) (length m.queues)
      ⊕ list_of_one script.decls (registration_fact m) (length m.queues)
      ⊕ list_of_one script.decls (timer_fact m) (length m.timers)
      ⊕ one_of script.decls (signal_fact m) (length m.actions)

  lists_have : length m.lists ≡ 255 → HaveTexts script.decls (list_facts m.lists) (lists_kept script.decls m.lists)
  lists_have every = record { same = lists_are script.decls m.lists every }

  facts_are : length m.lists ≡ 255 → HaveTexts script.decls (facts script m)
      (lists_kept script.decls m.lists ++ (threads_kept script.decls m ++ (objects_kept script.decls m ++ signals_kept script.decls m (length m.actions))))
  facts_are every = lists_have every ⊕ (threads_are ⊕ objects_are)

-- the facts of a state, without the record that ended it
pub state_kept : {P : Type 0} (script : Script) (m : Machine P) → length m.lists ≡ 255 → length m.actions ≡ 32
    → lists_kept script.decls m.lists ++ (threads_kept script.decls m ++ (objects_kept script.decls m ++ signals_kept script.decls (left_in (left_out m) m) 32))
    ≡ texts_of script.decls (facts script (once_ended m.killed m))
state_kept {P} script m every signals =
    ap (λ (n : ℕ). lists_kept script.decls m.lists ++ (threads_kept script.decls m ++ (objects_kept script.decls m ++ signals_kept script.decls (left_in (left_out m) m) n))) (sym signals)
    ∙ sym (facts_are script (left_in (left_out m) m) every).same
    ∙ ap (λ (x : Machine P). texts_of script.decls (facts script x)) (ended_state m)
