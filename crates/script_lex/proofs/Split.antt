-- The first line of a text and the first word of a line.
use Rattle.std.proofs.Common.{◌≡◌, ◌≤◌, ◌<◌, ℕ, suc, ◌+◌, List, [], ◌∷◌, length, take, drop, refl, sym, ◌∙◌, ap, subst, arith, Bool, true, false, not}
use Rattle.std.specs.Prelude.{◌==◌, ◌&&◌}
use Rattle.std.proofs.Common.{length-drop}
use Rattle.std.proofs.Math.ListN.{drop_of_length-le}
use Rattle.std.specs.List.{prefix_len, list_all}
use Rattle.script_lex.specs.Lines.{lines_of}
use Rattle.script_lex.specs.Words.{onto_first, words_of, is_blank}

-- the first line and what follows its end
abbrev FirstLine : List ℕ → Type 0
FirstLine text = 0 < length text → lines_of text ≡ take (prefix_len (λ c. not (c == 10)) text) text ∷ lines_of (drop (prefix_len (λ c. not (c == 10)) text + 1) text)

lines_case : (b : Bool) (c : ℕ) (cs : List ℕ) → (c == 10) ≡ b → FirstLine cs → FirstLine (c ∷ cs)
unfolding lines_of
lines_case true c cs e ih _ = rw e refl
lines_case false c [] e ih _ = rw e refl
lines_case false c (d ∷ ds) e ih _ =
    let n = prefix_len (λ x. not (x == 10)) (d ∷ ds) in
    let one : 1 + n ≡ suc n = omega arith in
    let two : suc n + 1 ≡ suc (n + 1) = omega arith in
    rw (e, one, two, ih (omega arith)) refl

pub lines_first : (text : List ℕ) → FirstLine text
lines_first [] some = absurd (omega arith)
lines_first (c ∷ cs) some = lines_case (c == 10) c cs refl (lines_first cs) some

pub no_lines : lines_of [] ≡ []
unfolding lines_of
no_lines = refl

pub no_words : words_of [] ≡ []
unfolding words_of
no_words = refl

pub word_more : (c d : ℕ) (ds : List ℕ) → is_blank c ≡ false → is_blank d ≡ false → words_of (c ∷ d ∷ ds) ≡ onto_first c (words_of (d ∷ ds))
unfolding words_of
word_more c d ds e f = rw (e, f) refl

pub word_ends : (c d : ℕ) (ds : List ℕ) → is_blank c ≡ false → is_blank d ≡ true → words_of (c ∷ d ∷ ds) ≡ (c ∷ []) ∷ words_of (d ∷ ds)
unfolding words_of
word_ends c d ds e f = rw (e, f) refl

pub word_alone : (c : ℕ) → is_blank c ≡ false → words_of (c ∷ []) ≡ (c ∷ []) ∷ words_of []
unfolding words_of
word_alone c e = rw e refl

pub word_skips : (c : ℕ) (cs : List ℕ) → is_blank c ≡ true → words_of (c ∷ cs) ≡ words_of cs
unfolding words_of
word_skips c cs e = rw e refl

pub passes : (p : ℕ → Bool) (c : ℕ) (cs : List ℕ) → p c ≡ true → prefix_len p (c ∷ cs) ≡ suc (prefix_len p cs)
passes p c cs e = let n : ℕ = prefix_len p cs in let one : 1 + n ≡ suc n = omega arith in rw e one

pub stops : (p : ℕ → Bool) (c : ℕ) (cs : List ℕ) → p c ≡ false → prefix_len p (c ∷ cs) ≡ 0
stops p c cs e = rw e refl

abbrev pub in_word : ℕ → Bool
in_word c = not (is_blank c)

-- the first word of a line has k bytes, and what follows
abbrev Word : List ℕ → ℕ → Type 0
Word line k = words_of line ≡ take k line ∷ words_of (drop k line)

abbrev FirstWord : ℕ → List ℕ → Type 0
FirstWord c cs = is_blank c ≡ false → Word (c ∷ cs) (prefix_len in_word (c ∷ cs))

word_case : (b : Bool) (c d : ℕ) (ds : List ℕ) → is_blank d ≡ b → FirstWord d ds → FirstWord c (d ∷ ds)
word_case true c d ds f ih e =
    let n : prefix_len in_word (c ∷ d ∷ ds) ≡ 1 = passes in_word c (d ∷ ds) (ap not e) ∙ ap suc (stops in_word d ds (ap not f)) in
    subst (Word (c ∷ d ∷ ds)) (sym n) (word_ends c d ds e f)
word_case false c d ds f ih e =
    subst (Word (c ∷ d ∷ ds)) (sym (passes in_word c (d ∷ ds) (ap not e))) (word_more c d ds e f ∙ ap (onto_first c) (ih f))

pub word_first : (c : ℕ) (cs : List ℕ) → FirstWord c cs
word_first c [] e = subst (Word (c ∷ [])) (sym (passes in_word c [] (ap not e))) (word_alone c e)
word_first c (d ∷ ds) e = word_case (is_blank d) c d ds refl (word_first d ds) e

-- behind k blanks
abbrev NextAt : List ℕ → ℕ → Type 0
NextAt line k = 0 < length (drop k line) → words_of line ≡ take (prefix_len in_word (drop k line)) (drop k line) ∷ words_of (drop (prefix_len in_word (drop k line)) (drop k line))

abbrev NextWord : List ℕ → Type 0
NextWord line = NextAt line (prefix_len is_blank line)

next_case : (b : Bool) (c : ℕ) (cs : List ℕ) → is_blank c ≡ b → NextWord cs → NextWord (c ∷ cs)
next_case true c cs e ih = subst (NextAt (c ∷ cs)) (sym (passes is_blank c cs e)) (λ some. word_skips c cs e ∙ ih some)
next_case false c cs e ih = subst (NextAt (c ∷ cs)) (sym (stops is_blank c cs e)) (λ some. word_first c cs e)

pub next_word : (line : List ℕ) → NextWord line
next_word [] some = absurd (omega arith)
next_word (c ∷ cs) some = next_case (is_blank c) c cs refl (next_word cs) some

blank_case : (b : Bool) (c : ℕ) (cs : List ℕ) → is_blank c ≡ b → prefix_len is_blank (c ∷ cs) ≡ length (c ∷ cs) → (prefix_len is_blank cs ≡ length cs → words_of cs ≡ []) → words_of (c ∷ cs) ≡ []
blank_case true c cs e all ih = let n = passes is_blank c cs e in word_skips c cs e ∙ ih (omega arith)
blank_case false c cs e all ih = let n = stops is_blank c cs e in absurd (omega arith)

pub only_blanks : (line : List ℕ) → prefix_len is_blank line ≡ length line → words_of line ≡ []
only_blanks [] all = no_words
only_blanks (c ∷ cs) all = blank_case (is_blank c) c cs refl all (only_blanks cs)

leading_case : (b : Bool) (c : ℕ) (cs : List ℕ) → is_blank c ≡ b → words_of (drop (prefix_len is_blank cs) cs) ≡ words_of cs → words_of (drop (prefix_len is_blank (c ∷ cs)) (c ∷ cs)) ≡ words_of (c ∷ cs)
leading_case true c cs e ih = ap (λ n. words_of (drop n (c ∷ cs))) (passes is_blank c cs e) ∙ (ih ∙ sym (word_skips c cs e))
leading_case false c cs e ih = ap (λ n. words_of (drop n (c ∷ cs))) (stops is_blank c cs e)

-- blanks that lead are of no word
pub leading_blanks : (line : List ℕ) → words_of (drop (prefix_len is_blank line) line) ≡ words_of line
leading_blanks [] = refl
leading_blanks (c ∷ cs) = leading_case (is_blank c) c cs refl (leading_blanks cs)

ink_first : (b all : Bool) → (not b && all) ≡ true → b ≡ false
ink_first true all e = cc
ink_first false all e = refl

ink_later : (b all : Bool) → (not b && all) ≡ true → all ≡ true
ink_later true all e = cc
ink_later false all e = e

-- bytes that are no blanks are one word
pub one_word : (c : ℕ) (cs : List ℕ) → list_all in_word (c ∷ cs) ≡ true → words_of (c ∷ cs) ≡ (c ∷ cs) ∷ []
one_word c [] e = word_alone c (ink_first (is_blank c) true e) ∙ ap (λ ws. (c ∷ []) ∷ ws) no_words
one_word c (d ∷ ds) e =
    let later : list_all in_word (d ∷ ds) ≡ true = ink_later (is_blank c) _ e in
    word_more c d ds (ink_first (is_blank c) _ e) (ink_first (is_blank d) _ later) ∙ ap (onto_first c) (one_word d ds later)

pub line_with_end : (text : List ℕ) (k : ℕ) → 0 < length text → k ≡ prefix_len (λ c. not (c == 10)) text → lines_of text ≡ take k text ∷ lines_of (drop (k + 1) text)
line_with_end text k some is = subst (λ n. lines_of text ≡ take n text ∷ lines_of (drop (n + 1) text)) (sym is) (lines_first text some)

pub last_line : (text : List ℕ) (k : ℕ) → 0 < length text → k ≡ prefix_len (λ c. not (c == 10)) text → length text ≤ k → lines_of text ≡ take k text ∷ lines_of (drop k text)
last_line text k some is all =
    let a : drop k text ≡ [] = drop_of_length-le text all in
    let b : drop (k + 1) text ≡ [] = drop_of_length-le text (omega arith) in
    let h = line_with_end text k some is in
    rw a (rw b at h)

pub word_at : (line : List ℕ) (start k : ℕ) → start < length line → start ≡ prefix_len is_blank line → k ≡ prefix_len in_word (drop start line) → words_of line ≡ take k (drop start line) ∷ words_of (drop k (drop start line))
word_at line start k some is long =
    let h : NextAt line start = subst (NextAt line) (sym is) (next_word line) in
    let room : 0 < length (drop start line) = omega (arith, length-drop start line) in
    subst (λ n. words_of line ≡ take n (drop start line) ∷ words_of (drop n (drop start line))) (sym long) (h room)
