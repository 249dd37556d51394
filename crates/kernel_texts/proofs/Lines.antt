-- The lines of facts, piece by piece.
use Rattle.std.proofs.Common.{◌≡◌, ◌<◌, ℕ, zero, suc, Bool, List, None, Some, [], ◌∷◌, ◌++◌, append-nil, append_assoc, ap, arith, false, flat_map, length, map, not, refl, slice_get, sym, take, true, unwrap_or, ◌∙◌}
use Rattle.std.specs.Prelude.{if◌then◌else◌, ◌||◌}
use Rattle.words_script.specs.declared.decl.Decl.{Decl}
use Rattle.rules_machine.specs.State.{Frame}
use Rattle.rules_machine.specs.Threads.{is_main}
use Rattle.rules_facts.specs.Spelled.{body_name}
use Rattle.rules_facts.specs.Threads.{inner_bodies}
use Rattle.script_lex.specs.Joined.{after_blanks, joined_words}
use Rattle.script_writer.specs.Canon.{Words, flag_words}
use Rattle.script_writer.specs.Line.{line_text}
use Rattle.script_writer.specs.Words.{is_nil}
use Rattle.kernel_texts.specs.Lines.{begun, end_text, frame_words, more_if_any, more_text, told_text}

-- ---- words behind words

pub blanks-append : (xs ys : Words) → after_blanks (xs ++ ys) ≡ after_blanks xs ++ after_blanks ys
blanks-append [] ys = refl
blanks-append (x ∷ xs) ys =
    ap (λ (t : List ℕ). 32 ∷ t) (ap (λ (t : List ℕ). x ++ t) (blanks-append xs ys) ∙ sym (append_assoc x (after_blanks xs) (after_blanks ys)))

pub joined-append : (s : List ℕ) (ss vs : Words) → joined_words (s ∷ ss) ++ after_blanks vs ≡ joined_words ((s ∷ ss) ++ vs)
joined-append s ss vs = append_assoc s (after_blanks ss) (after_blanks vs) ∙ ap (λ (t : List ℕ). s ++ t) (sym (blanks-append ss vs))

-- ---- a line that is begun with the first word that is told

pub begun_more : (about told more : Words) (is_begun : Bool) → 0 < length about → 0 < length more → is_begun ≡ not (is_nil told)
    → begun about told ++ more_text is_begun about more ≡ begun about (told ++ more)
begun_more [] told more is_begun some any flag = absurd (omega arith)
begun_more (s ∷ ss) told [] is_begun some any flag = absurd (omega arith)
begun_more (s ∷ ss) [] (m ∷ ms) is_begun some any flag = ap (λ (b : Bool). more_text b (s ∷ ss) (m ∷ ms)) flag
begun_more (s ∷ ss) (t ∷ ts) (m ∷ ms) is_begun some any flag =
    ap (λ (b : Bool). joined_words ((s ∷ ss) ++ (t ∷ ts)) ++ more_text b (s ∷ ss) (m ∷ ms)) flag
    ∙ joined-append s (ss ++ (t ∷ ts)) (m ∷ ms)
    ∙ ap joined_words (append_assoc (s ∷ ss) (t ∷ ts) (m ∷ ms))

pub begun_end : (about told : Words) (is_begun : Bool) → is_begun ≡ not (is_nil told) → begun about told ++ end_text is_begun ≡ told_text about told
begun_end about [] is_begun flag = ap end_text flag
begun_end about (t ∷ ts) is_begun flag = ap (λ (b : Bool). joined_words (about ++ (t ∷ ts)) ++ end_text b) flag

pub told_some : (told more : Words) → 0 < length more → true ≡ not (is_nil (told ++ more))
told_some [] [] any = absurd (omega arith)
told_some [] (m ∷ ms) any = refl
told_some (t ∷ ts) more any = refl

pub more_begun : (about more : Words) (is_begun : Bool) → 0 < length about → is_begun ≡ false → joined_words about ++ after_blanks more ≡ more_text is_begun about more
more_begun [] more is_begun some e = absurd (omega arith)
more_begun (s ∷ ss) more true some e = cc
more_begun (s ∷ ss) more false some e = joined-append s ss more

pub more_later : (about more : Words) (is_begun : Bool) → is_begun ≡ true → after_blanks more ≡ more_text is_begun about more
more_later about more true e = refl
more_later about more false e = cc

pub some_spelled : {X : Type 0} (word : X → List ℕ) (xs : List X) → 0 < length xs → 0 < length (map word xs)
some_spelled word [] some = absurd (omega arith)
some_spelled word (x ∷ xs) some = omega arith

-- ---- lines in several pieces

abbrev ended : List ℕ → List ℕ
ended line = line ++ 10 ∷ []

pub line_in_two : (s : List ℕ) (ss vs : Words) → joined_words (s ∷ ss) ++ (after_blanks vs ++ 10 ∷ []) ≡ line_text ((s ∷ ss) ++ vs)
line_in_two s ss vs = sym (append_assoc (joined_words (s ∷ ss)) (after_blanks vs) (10 ∷ [])) ∙ ap ended (joined-append s ss vs)

pub line_in_three : (s : List ℕ) (ss vs us : Words) → joined_words (s ∷ ss) ++ (after_blanks vs ++ (after_blanks us ++ 10 ∷ [])) ≡ line_text ((s ∷ ss) ++ (vs ++ us))
line_in_three s ss vs us =
    ap (λ (t : List ℕ). joined_words (s ∷ ss) ++ t) (sym (append_assoc (after_blanks vs) (after_blanks us) (10 ∷ [])) ∙ ap ended (sym (blanks-append vs us)))
    ∙ line_in_two s ss (vs ++ us)

told_line : (about words : Words) → is_nil words ≡ false → line_text (about ++ words) ≡ told_text about words
told_line about words some = ap (λ (b : Bool). if b then [] else line_text (about ++ words)) (sym some)

pub flags_line : (s : List ℕ) (ss a b d : Words) → is_nil ((a ++ b) ++ d) ≡ false
    → joined_words (s ∷ ss) ++ (after_blanks a ++ (after_blanks b ++ (after_blanks d ++ 10 ∷ []))) ≡ told_text (s ∷ ss) ((a ++ b) ++ d)
flags_line s ss a b d some =
    ap (λ (t : List ℕ). joined_words (s ∷ ss) ++ t) (sym (append_assoc (after_blanks a) (after_blanks b) (after_blanks d ++ 10 ∷ []))
    ∙ ap (λ (t : List ℕ). t ++ (after_blanks d ++ 10 ∷ [])) (sym (blanks-append a b)))
    ∙ line_in_three s ss (a ++ b) d
    ∙ told_line (s ∷ ss) ((a ++ b) ++ d) some

pub some_first : (u v w : List ℕ) (a b d : Bool) → a ≡ true → is_nil ((flag_words u a ++ flag_words v b) ++ flag_words w d) ≡ false
some_first u v w true b d e = refl
some_first u v w false b d e = cc

pub some_second : (u v w : List ℕ) (a b d : Bool) → b ≡ true → is_nil ((flag_words u a ++ flag_words v b) ++ flag_words w d) ≡ false
some_second u v w true b d e = refl
some_second u v w false true d e = refl
some_second u v w false false d e = cc

pub some_third : (u v w : List ℕ) (a b d : Bool) → d ≡ true → is_nil ((flag_words u a ++ flag_words v b) ++ flag_words w d) ≡ false
some_third u v w true b d e = refl
some_third u v w false true d e = refl
some_third u v w false false true e = refl
some_third u v w false false false e = cc

-- ---- more words, of which there may be none

or_false : (b : Bool) → (b || false) ≡ b
or_false true = refl
or_false false = refl

or_true : (b : Bool) → (b || true) ≡ true
or_true true = refl
or_true false = refl

text_more : (about told more : Words) (was_begun : Bool) → 0 < length about → more_text was_begun about told ++ after_blanks more ≡ more_text was_begun about (told ++ more)
text_more [] told more was_begun some = absurd (omega arith)
text_more (s ∷ ss) told more true some = sym (blanks-append told more)
text_more (s ∷ ss) told more false some = joined-append s (ss ++ told) more ∙ ap joined_words (append_assoc (s ∷ ss) told more)

pub if_more : (about told more : Words) (was_begun is_begun : Bool) → 0 < length about → 0 < length more → is_begun ≡ (was_begun || not (is_nil told))
    → more_if_any was_begun about told ++ more_text is_begun about more ≡ more_if_any was_begun about (told ++ more)
if_more about told [] was_begun is_begun some any flag = absurd (omega arith)
if_more about [] (m ∷ ms) was_begun is_begun some any flag = ap (λ (b : Bool). more_text b about (m ∷ ms)) (flag ∙ or_false was_begun)
if_more about (t ∷ ts) (m ∷ ms) was_begun is_begun some any flag =
    ap (λ (b : Bool). more_text was_begun about (t ∷ ts) ++ more_text b about (m ∷ ms)) (flag ∙ or_true was_begun)
    ∙ text_more about (t ∷ ts) (m ∷ ms) was_begun some

pub either_begun : (was_begun : Bool) (told more : Words) → 0 < length more → true ≡ (was_begun || not (is_nil (told ++ more)))
either_begun true told more any = refl
either_begun false told more any = told_some told more any

pub either_some : (told more : Words) → (not (is_nil told) || not (is_nil more)) ≡ not (is_nil (told ++ more))
either_some [] more = refl
either_some (t ∷ ts) more = refl

pub begun_if_more : (about told more : Words) (is_begun : Bool) → 0 < length about → is_begun ≡ not (is_nil told)
    → begun about told ++ more_if_any is_begun about more ≡ begun about (told ++ more)
begun_if_more about told [] is_begun some flag = append-nil (begun about told) ∙ ap (begun about) (sym (append-nil told))
begun_if_more about told (m ∷ ms) is_begun some flag = begun_more about told (m ∷ ms) is_begun some (omega arith) flag

-- ---- the words of the first members of a list

some_same : {X : Type 0} {x y : X} → Some x ≡ Some y → x ≡ y
some_same {x = x} e = ap (λ o. unwrap_or o x) e

pub words_more : {X : Type 0} (words : X → Words) (xs : List X) (i : ℕ) (x : X) → Some x ≡ slice_get xs i
    → flat_map words (take i xs) ++ words x ≡ flat_map words (take (suc i) xs)
words_more words [] i x is = cc
words_more words (y ∷ xs) zero x is = ap words (some_same is) ∙ sym (append-nil (words y))
words_more words (y ∷ xs) (suc i) x is =
    append_assoc (words y) (flat_map words (take i xs)) (words x) ∙ ap (λ (t : Words). words y ++ t) (words_more words xs i x is)

pub words_all : {X : Type 0} (words : X → Words) (xs : List X) (i : ℕ) → None ≡ slice_get xs i → flat_map words (take i xs) ≡ flat_map words xs
words_all words [] zero is = refl
words_all words [] (suc i) is = refl
words_all words (y ∷ xs) zero is = cc
words_all words (y ∷ xs) (suc i) is = ap (λ (t : Words). words y ++ t) (words_all words xs i is)

pub none_next : {X : Type 0} (xs : List X) (i : ℕ) → None ≡ slice_get xs i → None ≡ slice_get xs (suc i)
none_next [] i is = refl
none_next (x ∷ xs) zero is = cc
none_next (x ∷ xs) (suc i) is = none_next xs i is

pub one_each : {X : Type 0} (word : X → List ℕ) (xs : List X) → flat_map (λ (x : X). word x ∷ []) xs ≡ map word xs
one_each word [] = refl
one_each word (x ∷ xs) = ap (λ (t : Words). word x ∷ t) (one_each word xs)

-- ---- the words of frames

module _ {P : Type 0} (decls : List Decl) where
  pub inner_words : (f : Frame P) → is_main f.kind ≡ false → frame_words decls f ≡ body_name decls f.body ∷ []
  inner_words f e = ap (λ (b : Bool). if b then [] else body_name decls f.body ∷ []) e

  pub main_words : (f : Frame P) → is_main f.kind ≡ true → frame_words decls f ≡ []
  main_words f e = ap (λ (b : Bool). if b then [] else body_name decls f.body ∷ []) e

  told_of : (is_main_frame : Bool) (f : Frame P) (fs : List (Frame P)) → is_main f.kind ≡ is_main_frame → flat_map (frame_words decls) fs ≡ map (body_name decls) (inner_bodies fs)
      → flat_map (frame_words decls) (f ∷ fs) ≡ map (body_name decls) (inner_bodies (f ∷ fs))
  told_of true f fs e rest = rw e rest
  told_of false f fs e rest = rw e (ap (λ (t : Words). body_name decls f.body ∷ t) rest)

  pub frames_told : (fs : List (Frame P)) → flat_map (frame_words decls) fs ≡ map (body_name decls) (inner_bodies fs)
  frames_told [] = refl
  frames_told (f ∷ fs) = told_of (is_main f.kind) f fs refl (frames_told fs)
