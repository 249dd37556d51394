-- The lines of the facts that change, by their texts.
use Rattle.std.proofs.Common.{◌≡◌, ◌∙◌, ◌+◌, ℕ, zero, suc, Bool, List, [], ◌∷◌, ◌++◌, ap, append-nil, append_assoc, arith, drop, false, flat_map, length, map, not, refl, sym, take, true}
use Rattle.std.specs.Prelude.{decimal, ◌-◌, if◌then◌else◌}
use Rattle.std.specs.List.{join_with_byte}
use Rattle.std.specs.Str.{bytes_eq}
use Rattle.std.proofs.Math.Seq.{drop-append-add, take-append_seam}
use Rattle.std.proofs.lemmas.List.{length-append}
use Rattle.words_script.specs.declared.decl.Decl.{Decl}
use Rattle.script_lex.specs.Joined.{after_blanks, joined_words}
use Rattle.script_writer.specs.Canon.{Words}
use Rattle.script_writer.specs.Line.{line_text}
use Rattle.rules_facts.specs.Detail.{changed, timed_line}
use Rattle.rules_facts.specs.Fact.{Fact, arming_of, blocked_thread, cancelability, dormant_thread, ended_thread, inner_frames, masked, messages_of, on_list, owner, pending_signals, pushed_cleanups, ready_thread, receivers_of, registration_of, replenishments, semaphore_value, senders_of, waiters_of}
use Rattle.rules_facts.specs.Spelled.{subject, told}
use Rattle.kernel_texts.specs.Lines.{fact_text, told_text}
use Rattle.kernel_texts.proofs.Lines.{joined-append}
use Rattle.kernel_texts.specs.Changed.{HaveSameSubjects, behind_subject, changed_line, changed_lines, line_or_subject, subject_text}
use Rattle.kernel_texts.specs.Kept.{texts_of}
use Rattle.kernel_texts.proofs.Whole.{joined_same}

-- ---- what is behind the subject

abbrev no_bytes : List ℕ
no_bytes = []

drop_none : (n : ℕ) → drop n no_bytes ≡ no_bytes
drop_none zero = refl
drop_none (suc n) = refl

take_none : (n : ℕ) → take n no_bytes ≡ no_bytes
take_none zero = refl
take_none (suc n) = refl

-- a line with words behind its subject
split_line : (s : List ℕ) (ss : Words) (w : List ℕ) (ws : Words) → line_text ((s ∷ ss) ++ (w ∷ ws)) ≡ joined_words (s ∷ ss) ++ (32 ∷ (joined_words (w ∷ ws) ++ 10 ∷ []))
split_line s ss w ws =
    ap (λ (t : List ℕ). t ++ 10 ∷ []) (sym (joined-append s ss (w ∷ ws)))
    ∙ append_assoc (joined_words (s ∷ ss)) (after_blanks (w ∷ ws)) (10 ∷ [])

behind_line : (about words : List ℕ) → behind_subject about (about ++ (32 ∷ (words ++ 10 ∷ []))) ≡ words
behind_line about words =
    let long = length-append about (32 ∷ (words ++ 10 ∷ [])) in
    let rest = length-append words (10 ∷ []) in
    let few : length (about ++ (32 ∷ (words ++ 10 ∷ []))) - length about - 2 ≡ length words = omega (arith, long, rest) in
    ap (λ (t : List ℕ). take (length (about ++ (32 ∷ (words ++ 10 ∷ []))) - length about - 2) t) (drop-append-add about (32 ∷ (words ++ 10 ∷ [])) 1)
    ∙ ap (λ (n : ℕ). take n (words ++ 10 ∷ [])) few
    ∙ take-append_seam words (10 ∷ [])

told_behind : (s : List ℕ) (ss : Words) (words : Words) → behind_subject (joined_words (s ∷ ss)) (told_text (s ∷ ss) words) ≡ join_with_byte 32 words
told_behind s ss [] = ap (take (0 - length (joined_words (s ∷ ss)) - 2)) (drop_none (length (joined_words (s ∷ ss)) + 1)) ∙ take_none (0 - length (joined_words (s ∷ ss)) - 2)
told_behind s ss (w ∷ ws) =
    ap (behind_subject (joined_words (s ∷ ss))) (split_line s ss w ws)
    ∙ behind_line (joined_words (s ∷ ss)) (joined_words (w ∷ ws))
    ∙ sym (joined_same (w ∷ ws))

abbrev first_of_words : List Words → Words
first_of_words [] = []
first_of_words (w ∷ ws) = w

abbrev behind_first : List Words → List Words
behind_first [] = []
behind_first (w ∷ ws) = ws

-- ---- one fact

-- a subject has a first word
pub record FirstWord (words : Words) : Type 0 where
  pub first : List ℕ
  pub rest : Words
  pub all : words ≡ first ∷ rest

of_words : (first : List ℕ) (rest : Words) → FirstWord (first ∷ rest)
of_words first rest = record { first = first; rest = rest; all = refl }

module _ (decls : List Decl) where
  first_word : (f : Fact) → FirstWord (subject decls f)
  first_word (on_list p threads) = of_words _ _
  first_word (dormant_thread t) = of_words _ _
  first_word (ended_thread t) = of_words _ _
  first_word (ready_thread t priorities) = of_words _ _
  first_word (blocked_thread t priorities block) = of_words _ _
  first_word (inner_frames t bodies) = of_words _ _
  first_word (masked t set) = of_words _ _
  first_word (cancelability t c) = of_words _ _
  first_word (pushed_cleanups t handlers) = of_words _ _
  first_word (replenishments t planned) = of_words _ _
  first_word (owner k o) = of_words _ _
  first_word (waiters_of sort k threads) = of_words _ _
  first_word (semaphore_value k value) = of_words _ _
  first_word (messages_of q messages) = of_words _ _
  first_word (senders_of q threads) = of_words _ _
  first_word (receivers_of q threads) = of_words _ _
  first_word (registration_of q r) = of_words _ _
  first_word (arming_of k a) = of_words _ _
  first_word (pending_signals signal records) = of_words _ _

  -- what is told of a subject is behind it
  words_behind : (about words : Words) → FirstWord about → behind_subject (joined_words about) (told_text about words) ≡ join_with_byte 32 words
  words_behind about words h =
      ap (λ (ws : Words). behind_subject (joined_words ws) (told_text ws words)) h.all ∙ told_behind h.first h.rest words

  ended_line : (about line : List ℕ) → line_or_subject about (line ++ 10 ∷ []) ≡ line ++ 10 ∷ []
  ended_line about [] = refl
  ended_line about (c ∷ line) = refl

  whole_line : (about words : Words) → line_or_subject (joined_words about) (told_text about words) ≡ joined_words (about ++ words) ++ 10 ∷ []
  whole_line about [] = ap (λ (ws : Words). joined_words ws ++ 10 ∷ []) (sym (append-nil about))
  whole_line about (w ∷ ws) = ended_line (joined_words about) (joined_words (about ++ (w ∷ ws)))

  blank_words : (words : Words) → FirstWord words → after_blanks words ≡ 32 ∷ joined_words words
  blank_words words h = ap after_blanks h.all ∙ sym (ap (λ (ws : Words). 32 ∷ joined_words ws) h.all)

  more_words : (words more : Words) → FirstWord words → FirstWord (words ++ more)
  more_words words more h = record { first = h.first; rest = h.rest ++ more; all = ap (λ (ws : Words). ws ++ more) h.all }

  timed_is : (now : ℕ) (f : Fact) → decimal now ++ (32 ∷ line_or_subject (subject_text decls f) (fact_text decls f)) ≡ timed_line decls now f
  timed_is now f =
      let about = subject decls f in
      let words = told decls f in
      ap (λ (t : List ℕ). decimal now ++ (32 ∷ t)) (whole_line about words)
      ∙ sym (append_assoc (decimal now) (32 ∷ joined_words (about ++ words)) (10 ∷ []))
      ∙ ap (λ (t : List ℕ). (decimal now ++ t) ++ 10 ∷ []) (sym (blank_words (about ++ words) (more_words about words (first_word f))))
      ∙ ap (λ (t : List ℕ). t ++ 10 ∷ []) (sym (joined_same (decimal now ∷ (about ++ words))))

  -- ---- all of them

  same_test : (b a : Fact) → subject decls b ≡ subject decls a
      → bytes_eq (behind_subject (subject_text decls a) (fact_text decls b)) (behind_subject (subject_text decls a) (fact_text decls a)) ≡ bytes_eq (join_with_byte 32 (told decls b)) (join_with_byte 32 (told decls a))
  same_test b a same =
      ap (λ (ws : Words). bytes_eq (behind_subject (joined_words ws) (fact_text decls b)) (behind_subject (subject_text decls a) (fact_text decls a))) (sym same)
      ∙ ap (λ (t : List ℕ). bytes_eq t (behind_subject (subject_text decls a) (fact_text decls a))) (words_behind (subject decls b) (told decls b) (first_word b))
      ∙ ap (bytes_eq (join_with_byte 32 (told decls b))) (words_behind (subject decls a) (told decls a) (first_word a))

  one_changed : (now : ℕ) (b a : Fact) (before after : List Fact) (rest : List ℕ) → subject decls b ≡ subject decls a → rest ≡ flat_map (timed_line decls now) (changed decls before after)
      → changed_line now (subject_text decls a) (fact_text decls b) (fact_text decls a) ++ rest ≡ flat_map (timed_line decls now) (changed decls (b ∷ before) (a ∷ after))
  one_changed now b a before after rest same h =
      let line = decimal now ++ (32 ∷ line_or_subject (subject_text decls a) (fact_text decls a)) in
      ap (λ (x : Bool). (if x then [] else line) ++ rest) (same_test b a same) ∙ by_test (bytes_eq (join_with_byte 32 (told decls b)) (join_with_byte 32 (told decls a)))
    where
      by_test : (x : Bool) → (if x then [] else decimal now ++ (32 ∷ line_or_subject (subject_text decls a) (fact_text decls a))) ++ rest
          ≡ flat_map (timed_line decls now) (if not x then a ∷ changed decls before after else changed decls before after)
      by_test true = h
      by_test false = ap (λ (t : List ℕ). t ++ rest) (timed_is now a) ∙ ap (λ (t : List ℕ). timed_line decls now a ++ t) h

  -- one subject after the other
  abbrev SameEach : List Fact → List Fact → Type 0
  SameEach [] [] = Unit {0}
  SameEach [] (a ∷ after) = ⊥
  SameEach (b ∷ before) [] = ⊥
  SameEach (b ∷ before) (a ∷ after) = (subject decls b ≡ subject decls a) × SameEach before after

  same_each : (before after : List Fact) → HaveSameSubjects decls before after → SameEach before after
  same_each [] [] e = tt
  same_each [] (a ∷ after) e = let l = ap (λ (ws : List Words). length ws) e in absurd (omega (arith, l))
  same_each (b ∷ before) [] e = let l = ap (λ (ws : List Words). length ws) e in absurd (omega (arith, l))
  same_each (b ∷ before) (a ∷ after) e = (ap first_of_words e, same_each before after (ap behind_first e))

  lines_each : (now : ℕ) (before after : List Fact) → SameEach before after
      → changed_lines now (map (subject_text decls) after) (texts_of decls before) (texts_of decls after) ≡ flat_map (timed_line decls now) (changed decls before after)
  lines_each now [] [] h = refl
  lines_each now [] (a ∷ after) h = absurd h
  lines_each now (b ∷ before) [] h = absurd h
  lines_each now (b ∷ before) (a ∷ after) h =
      one_changed now b a before after (changed_lines now (map (subject_text decls) after) (texts_of decls before) (texts_of decls after)) h.0 (lines_each now before after h.1)

  pub lines_are : (now : ℕ) (before after : List Fact) → HaveSameSubjects decls before after
      → changed_lines now (map (subject_text decls) after) (texts_of decls before) (texts_of decls after) ≡ flat_map (timed_line decls now) (changed decls before after)
  lines_are now before after e = lines_each now before after (same_each before after e)

-- ---- piece by piece

pub line_none : (about line : List ℕ) → length line ≡ 0 → line_or_subject about line ≡ about ++ 10 ∷ []
line_none about [] e = refl
line_none about (c ∷ line) e = absurd (omega arith)

pub line_some : (about line : List ℕ) → (length line ≡ 0 → ⊥) → line_or_subject about line ≡ line
line_some about [] some = absurd (some refl)
line_some about (c ∷ line) some = refl

pub line_changes : (now : ℕ) (about before line : List ℕ) → bytes_eq (behind_subject about before) (behind_subject about line) ≡ false
    → decimal now ++ (32 ∷ line_or_subject about line) ≡ changed_line now about before line
line_changes now about before line e = sym (ap (λ (x : Bool). if x then [] else decimal now ++ (32 ∷ line_or_subject about line)) e)

-- where these are the texts of facts
pub texts_are : (now : ℕ) (subjects before lines : List (List ℕ)) (decls : List Decl) (old new : List Fact) → HaveSameSubjects decls old new
    → subjects ≡ map (subject_text decls) new → before ≡ texts_of decls old → lines ≡ texts_of decls new
    → changed_lines now subjects before lines ≡ flat_map (timed_line decls now) (changed decls old new)
texts_are now subjects before lines decls old new same s b l =
    ap (λ (t : List (List ℕ)). changed_lines now t before lines) s
    ∙ ap (λ (t : List (List ℕ)). changed_lines now (map (subject_text decls) new) t lines) b
    ∙ ap (changed_lines now (map (subject_text decls) new) (texts_of decls old)) l
    ∙ lines_are decls now old new same
