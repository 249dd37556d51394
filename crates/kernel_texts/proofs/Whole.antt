-- The text of a state is that of its rows.
use Rattle.std.specs.List.{join_with_byte, range_with_len}
use Rattle.std.specs.Prelude.{if◌then◌else◌, option_map, slice_index_or}
use Rattle.std.proofs.Common.{◌≡◌, ◌<◌, ◌+◌, ◌-◌, ℕ, zero, suc, Bool, List, None, Option, Some, [], ◌∷◌, ◌++◌, ap, append-nil, arith, false, filter, flat_map, length, map, not, refl, reverse, sym, true, ◌∙◌}
use Rattle.std.proofs.lemmas.Grind.{reverse_onto}
use Rattle.words_script.specs.declared.decl.Decl.{Decl}
use Rattle.words_script.specs.declared.decl.Script.{Script}
use Rattle.words_script.specs.declared.name_kind.NameKind.TheVariants as kind
use Rattle.script_writer.specs.Names.{names_of}
use Rattle.words_trace.specs.Text.{line_of_words}
use Rattle.script_lex.specs.Joined.{joined_words}
use Rattle.script_writer.specs.Canon.{Words}
use Rattle.script_writer.specs.Line.{line_text}
use Rattle.rules_machine.specs.State.{Machine, SignalRecord}
use Rattle.rules_facts.specs.Fact.{Fact, Number, on_list}
use Rattle.rules_facts.specs.Facts.{facts, facts_of_objects, facts_of_threads}
use Rattle.rules_facts.specs.Lists.{list_facts, lists_from}
use Rattle.rules_facts.specs.Numbers.{machine_numbers, thread_numbers_told}
use Rattle.rules_facts.specs.Objects.{condition_waiters, mutex_waiters, owner_fact, semaphore_fact, semaphore_waiters, timer_fact}
use Rattle.rules_facts.specs.Queues.{messages_fact, registration_fact, senders_and_receivers}
use Rattle.rules_facts.specs.Shown.{ending_record, killed_line, once_ended, state_line, state_text, without_taken}
use Rattle.rules_facts.specs.Signals.{signal_fact}
use Rattle.rules_facts.specs.Spelled.{fact_line, fact_words, is_empty, number_line, number_words}
use Rattle.rules_facts.specs.Threads.{cancelability_fact, cleanups_fact, frames_fact, mask_fact, pending_fact, thread_fact}
use Rattle.kernel_texts.specs.Lines.{fact_text, facts_text, number_text, texts_below}
use Rattle.kernel_texts.specs.Rows.{left_out, left_out_if, list_text, numbers_text, objects_text, signals_text, threads_text}
use Rattle.kernel_texts.specs.Picked.{is_left_out, left_in}
use Rattle.kernel_texts.proofs.Ticks.{flat_map-append}

pub two_texts : (a b : List ℕ) → a ++ b ≡ a ++ (b ++ [])
two_texts a b = ap (λ (t : List ℕ). a ++ t) (sym (append-nil b))

-- ---- lines

pub joined_same : (words : Words) → join_with_byte 32 words ≡ joined_words words
joined_same [] = refl
joined_same (w ∷ []) = sym (append-nil w)
joined_same (w ∷ v ∷ words) = ap (λ (t : List ℕ). w ++ (32 ∷ t)) (joined_same (v ∷ words))

line_same : (words : Words) → line_of_words words ≡ line_text words
line_same words = ap (λ (t : List ℕ). t ++ 10 ∷ []) (joined_same words)

-- ---- facts that are not empty

module _ (decls : List Decl) where
  one_fact : (f : Fact) (fs : List Fact) (b : Bool) → is_empty decls f ≡ b → flat_map (fact_line decls) (filter (λ (x : Fact). not (is_empty decls x)) fs) ≡ facts_text decls fs
      → flat_map (fact_line decls) (if not (is_empty decls f) then f ∷ filter (λ (x : Fact). not (is_empty decls x)) fs else filter (λ (x : Fact). not (is_empty decls x)) fs)
      ≡ (if is_empty decls f then [] else line_text (fact_words decls f)) ++ facts_text decls fs
  one_fact f fs true e rest = rw e rest
  one_fact f fs false e rest =
      rw e (ap (λ (t : List ℕ). t ++ flat_map (fact_line decls) (filter (λ (x : Fact). not (is_empty decls x)) fs)) (line_same (fact_words decls f))
      ∙ ap (λ (t : List ℕ). line_text (fact_words decls f) ++ t) rest)

  told_facts : (fs : List Fact) → flat_map (fact_line decls) (filter (λ (f : Fact). not (is_empty decls f)) fs) ≡ facts_text decls fs
  told_facts [] = refl
  told_facts (f ∷ fs) = one_fact f fs (is_empty decls f) refl (told_facts fs)

  told_numbers : (ns : List Number) → flat_map (number_line decls) ns ≡ flat_map (number_text decls) ns
  told_numbers [] = refl
  told_numbers (n ∷ ns) =
      ap (λ (t : List ℕ). t ++ flat_map (number_line decls) ns) (line_same (number_words decls n)) ∙ ap (λ (t : List ℕ). number_text decls n ++ t) (told_numbers ns)

-- ---- one text for each number

range_snoc : (a n : ℕ) → range_with_len a (suc n) ≡ range_with_len a n ++ (a + n) ∷ []
range_snoc a zero = let same : a ≡ a + 0 = omega arith in ap (λ (k : ℕ). k ∷ []) same
range_snoc a (suc n) =
    let over : a + 1 + n ≡ a + suc n = omega arith in
    ap (λ (t : List ℕ). a ∷ t) (range_snoc (a + 1) n ∙ ap (λ (k : ℕ). range_with_len (a + 1) n ++ k ∷ []) over)

below_is : (text : ℕ → List ℕ) (n : ℕ) → flat_map text (range_with_len 0 n) ≡ texts_below text n
below_is text zero = refl
below_is text (suc n) =
    let same : 0 + n ≡ n = omega arith in
    ap (flat_map text) (range_snoc 0 n) ∙ flat_map-append text (range_with_len 0 n) ((0 + n) ∷ [])
    ∙ ap (λ (t : List ℕ). flat_map text (range_with_len 0 n) ++ t) (append-nil (text (0 + n)) ∙ ap text same)
    ∙ ap (λ (t : List ℕ). t ++ text n) (below_is text n)

texts_same : (f g : ℕ → List ℕ) (n : ℕ) → ((i : ℕ) → i < n → f i ≡ g i) → texts_below f n ≡ texts_below g n
texts_same f g zero same = refl
texts_same f g (suc n) same =
    ap (λ (t : List ℕ). t ++ f n) (texts_same f g n (λ i lt. same i (omega arith))) ∙ ap (λ (t : List ℕ). texts_below g n ++ t) (same n (omega arith))

flat_of_map : (g : Fact → List ℕ) (f : ℕ → Fact) (ns : List ℕ) → flat_map g (map f ns) ≡ flat_map (λ (n : ℕ). g (f n)) ns
flat_of_map g f [] = refl
flat_of_map g f (n ∷ ns) = ap (λ (t : List ℕ). g (f n) ++ t) (flat_of_map g f ns)

flat_of_flat : {X : Type 0} (g : X → List ℕ) (f : ℕ → List X) (ns : List ℕ) → flat_map g (flat_map f ns) ≡ flat_map (λ (n : ℕ). flat_map g (f n)) ns
flat_of_flat g f [] = refl
flat_of_flat g f (n ∷ ns) = flat_map-append g (f n) (flat_map f ns) ∙ ap (λ (t : List ℕ). flat_map g (f n) ++ t) (flat_of_flat g f ns)

module _ (decls : List Decl) where
  -- a row of facts
  row : (f : ℕ → Fact) (n : ℕ) → facts_text decls (map f (range_with_len 0 n)) ≡ texts_below (λ (k : ℕ). fact_text decls (f k)) n
  row f n = flat_of_map (fact_text decls) f (range_with_len 0 n) ∙ below_is (λ (k : ℕ). fact_text decls (f k)) n

  -- the same, each as a list of one
  row_of_one : (f : ℕ → Fact) (n : ℕ) → facts_text decls (map f (range_with_len 0 n)) ≡ texts_below (λ (k : ℕ). facts_text decls (f k ∷ [])) n
  row_of_one f n = row f n ∙ texts_same (λ (k : ℕ). fact_text decls (f k)) (λ (k : ℕ). facts_text decls (f k ∷ [])) n (λ i lt. sym (append-nil (fact_text decls (f i))))

  rows : (f : ℕ → List Fact) (n : ℕ) → facts_text decls (flat_map f (range_with_len 0 n)) ≡ texts_below (λ (k : ℕ). facts_text decls (f k)) n
  rows f n = flat_of_flat (fact_text decls) f (range_with_len 0 n) ∙ below_is (λ (k : ℕ). facts_text decls (f k)) n

  both : (a b : List Fact) (s t : List ℕ) → facts_text decls a ≡ s → facts_text decls b ≡ t → facts_text decls (a ++ b) ≡ s ++ t
  both a b s t is_s is_t = flat_map-append (fact_text decls) a b ∙ ap (λ (x : List ℕ). x ++ facts_text decls b) is_s ∙ ap (λ (x : List ℕ). s ++ x) is_t

  -- ---- the lists

  list_at_place : (n p : ℕ) (x : List ℕ) (xs : List (List ℕ)) (i : ℕ) → i < n
      → fact_text decls (on_list (suc p + n - i) (slice_index_or xs (n - 1 - i) [])) ≡ fact_text decls (on_list (p + suc n - i) (slice_index_or (x ∷ xs) (suc n - 1 - i) []))
  list_at_place n p x xs i lt =
      let level : suc p + n - i ≡ p + suc n - i = omega arith in
      let place : suc n - 1 - i ≡ suc (n - 1 - i) = omega arith in
      ap (λ (k : ℕ). fact_text decls (on_list k (slice_index_or xs (n - 1 - i) []))) level
      ∙ sym (ap (λ (k : ℕ). fact_text decls (on_list (p + suc n - i) (slice_index_or (x ∷ xs) k []))) place)

  lists_below : (p : ℕ) (lists : List (List ℕ)) → facts_text decls (reverse (lists_from (suc p) lists))
      ≡ texts_below (λ (i : ℕ). fact_text decls (on_list (p + length lists - i) (slice_index_or lists (length lists - 1 - i) []))) (length lists)
  lists_below p [] = refl
  lists_below p (x ∷ xs) =
      let n = length xs in
      let last_level : p + suc n - n ≡ suc p = omega arith in
      let last_place : suc n - 1 - n ≡ 0 = omega arith in
      let next : suc p + 1 ≡ suc (suc p) = omega arith in
      ap (facts_text decls) (reverse_onto (lists_from (suc p + 1) xs) (on_list (suc p) x) [])
      ∙ both (reverse (lists_from (suc p + 1) xs)) (on_list (suc p) x ∷ []) _ _
      (ap (λ (k : ℕ). facts_text decls (reverse (lists_from k xs))) next ∙ lists_below (suc p) xs ∙ texts_same _ _ n (λ i lt. list_at_place n p x xs i lt))
      (append-nil (fact_text decls (on_list (suc p) x))
      ∙ sym (ap (λ (k : ℕ). fact_text decls (on_list k (slice_index_or (x ∷ xs) (suc n - 1 - n) []))) last_level
      ∙ ap (λ (k : ℕ). fact_text decls (on_list (suc p) (slice_index_or (x ∷ xs) k []))) last_place))

  lists_told : (lists : List (List ℕ)) → length lists ≡ 255 → facts_text decls (list_facts lists) ≡ texts_below (list_text decls 255 lists) 255
  lists_told lists count =
      lists_below 0 lists
      ∙ ap (λ (n : ℕ). texts_below (λ (i : ℕ). fact_text decls (on_list (0 + n - i) (slice_index_or lists (n - 1 - i) []))) n) count
      ∙ texts_same _ (list_text decls 255 lists) 255 (λ i lt. let level : 0 + 255 - i ≡ 255 - i = omega arith in let place : 255 - 1 - i ≡ 255 - i - 1 = omega arith in
      ap (λ (k : ℕ). fact_text decls (on_list k (slice_index_or lists (255 - 1 - i) []))) level
      ∙ ap (λ (k : ℕ). fact_text decls (on_list (255 - i) (slice_index_or lists k []))) place)

-- ---- rows of facts, one behind the other

record HaveText (decls : List Decl) (fs : List Fact) (text : List ℕ) : Type 0 where
  same : facts_text decls fs ≡ text

infixl 4 ◌⊕◌
◌⊕◌ : {decls : List Decl} {a b : List Fact} {s t : List ℕ} → HaveText decls a s → HaveText decls b t → HaveText decls (a ++ b) (s ++ t)
◌⊕◌ {decls} {a} {b} {s} {t} in_a in_b = record { same = both decls a b s t in_a.same in_b.same }

module _ (decls : List Decl) where
  one_of : (f : ℕ → Fact) (n : ℕ) → HaveText decls (map f (range_with_len 0 n)) (texts_below (λ (k : ℕ). fact_text decls (f k)) n)
  one_of f n = record { same = row decls f n }

  list_of_one : (f : ℕ → Fact) (n : ℕ) → HaveText decls (map f (range_with_len 0 n)) (texts_below (λ (k : ℕ). facts_text decls (f k ∷ [])) n)
  list_of_one f n = record { same = row_of_one decls f n }

  list_of_facts : (f : ℕ → List Fact) (n : ℕ) → HaveText decls (flat_map f (range_with_len 0 n)) (texts_below (λ (k : ℕ). facts_text decls (f k)) n)
  list_of_facts f n = record { same = rows decls f n }

module _ {P : Type 0} (script : Script) (m : Machine P) where
  threads_told : HaveText script.decls (facts_of_threads m) (threads_text script.decls m)
  threads_told =
      let n = length m.threads in
      one_of script.decls (thread_fact m) n
      ⊕ one_of script.decls (frames_fact m) n
      ⊕ one_of script.decls (mask_fact m) n
      ⊕ one_of script.decls (cancelability_fact m) n
      ⊕ one_of script.decls (cleanups_fact m) n
      ⊕ one_of script.decls (pending_fact m) n

  objects_told : HaveText script.decls (facts_of_objects script m) (objects_text script.decls m ++ signals_text script.decls m)
  objects_told =
      list_of_one script.decls (owner_fact m) (length m.mutexes)
      ⊕ list_of_one script.decls (mutex_waiters m) (length m.mutexes)
      ⊕ list_of_one script.decls (condition_waiters m) (length (names_of kind.Cond script.decls))
      ⊕ list_of_one script.decls (semaphore_waiters m) (length m.semaphores)
      ⊕ list_of_one script.decls (semaphore_fact m) (length m.semaphores)
      ⊕ list_of_one script.decls (messages_fact m) (length m.queues)
      ⊕ list_of_facts script.decls (senders_and_receivers m) (length m.queues)
      ⊕ list_of_one script.decls (registration_fact m) (length m.queues)
      ⊕ list_of_one script.decls (timer_fact m) (length m.timers)
      ⊕ one_of script.decls (signal_fact m) (length m.actions)

  lists_have : length m.lists ≡ 255 → HaveText script.decls (list_facts m.lists) (texts_below (list_text script.decls 255 m.lists) 255)
  lists_have every = record { same = lists_told script.decls m.lists every }

  facts_told : length m.lists ≡ 255 → HaveText script.decls (facts script m)
      (texts_below (list_text script.decls 255 m.lists) 255 ++ (threads_text script.decls m ++ (objects_text script.decls m ++ signals_text script.decls m)))
  facts_told every = lists_have every ⊕ (threads_told ⊕ objects_told)

  numbers_told : flat_map (number_line script.decls) (machine_numbers m) ≡ numbers_text script.decls m
  numbers_told =
      told_numbers script.decls (machine_numbers m)
      ∙ flat_of_flat (number_text script.decls) (thread_numbers_told m) (range_with_len 0 (length m.threads))
      ∙ below_is (λ (t : ℕ). flat_map (number_text script.decls) (thread_numbers_told m t)) (length m.threads)

  pub whole : length m.lists ≡ 255 →
      ((state_line m.now ++ killed_line m.killed)
      ++ (texts_below (list_text script.decls 255 m.lists) 255 ++ (threads_text script.decls m ++ (objects_text script.decls m ++ signals_text script.decls m))))
      ++ numbers_text script.decls m ≡ state_text script m
  whole every =
      let head = state_line m.now ++ killed_line m.killed in
      ap (λ (t : List ℕ). (head ++ t) ++ numbers_text script.decls m) (sym (told_facts script.decls (facts script m) ∙ (facts_told every).same))
      ∙ ap (λ (t : List ℕ). (head ++ flat_map (fact_line script.decls) (filter (λ (f : Fact). not (is_empty script.decls f)) (facts script m))) ++ t) (sym numbers_told)

-- ---- the state without the record that ended it

all_kept : (rs : List SignalRecord) → filter (λ (r : SignalRecord). not (is_left_out None r.serial)) rs ≡ rs
all_kept [] = refl
all_kept (r ∷ rs) = ap (λ (t : List SignalRecord). r ∷ t) (all_kept rs)

module _ {P : Type 0} (m : Machine P) where
  by_ending : (o : Option SignalRecord) → left_in (option_map (λ (r : SignalRecord). r.serial) o) m ≡ without_taken o m
  by_ending None = ap (λ (pending : List SignalRecord). record m { pending = pending }) (all_kept m.pending)
  by_ending (Some r) = refl

  by_killed : (killed : Option ℕ) → left_in (left_out_if killed m) m ≡ once_ended killed m
  by_killed None = by_ending None
  by_killed (Some signal) = by_ending (ending_record m)

-- the pieces of which a state is told
pub state_told : {P : Type 0} (script : Script) (m : Machine P) → length m.lists ≡ 255 →
    ((state_line m.now ++ killed_line m.killed)
    ++ (texts_below (list_text script.decls 255 m.lists) 255
    ++ (threads_text script.decls m ++ (objects_text script.decls m ++ signals_text script.decls (left_in (left_out m) m)))))
    ++ numbers_text script.decls m ≡ state_text script (once_ended m.killed m)
state_told script m every = whole script (left_in (left_out m) m) every ∙ ap (state_text script) (by_killed m m.killed)

-- the state without that record, as the code leaves it out
pub ended_state : {P : Type 0} (m : Machine P) → left_in (left_out m) m ≡ once_ended m.killed m
ended_state m = by_killed m m.killed
