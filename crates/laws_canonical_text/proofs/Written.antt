-- What a line has as words, and what is written for them, can stand in a line as words.
use Rattle.std.proofs.Common.{◌≡◌, ◌<◌, ℕ, List, [], ◌∷◌, length, refl, Bool, true, false, not, arith, rules}
use Rattle.std.specs.Prelude.{◌&&◌, ◌==◌}
use Rattle.std.specs.List.{list_all}
use Rattle.std.proofs.lemmas.List.Sums.{take_while-cons}
use Rattle.script_lex.specs.Words.{is_blank, is_allowed, has_bad_byte, before_comment, onto_first, words_of, line_words}
use Rattle.script_lex.specs.Joined.{is_word_byte, is_word}
use Rattle.script_lex.proofs.Rejoined.{both}
use Rattle.script_lex.proofs.Split.{no_words, word_more, word_ends, word_alone, word_skips}
use Rattle.words_script.specs.Names.{is_digit}

and_true : (a b : Bool) → a ≡ true → b ≡ true → (a && b) ≡ true
and_true a b p q = rw (p, q) refl

-- a byte that no line may not have, and that begins no comment
abbrev is_plain : ℕ → Bool
is_plain c = is_allowed c && not (c == 35)

plain_byte : (c : ℕ) → is_plain c ≡ true → is_blank c ≡ false → is_word_byte c ≡ true
plain_byte c p b = search rules

front_word : (c : ℕ) (ws : List (List ℕ)) → is_word_byte c ≡ true → list_all is_word ws ≡ true → list_all is_word (onto_first c ws) ≡ true
front_word c [] b e = rw b refl
front_word c ([] ∷ ws) b e = absurd (let f : false ≡ true = e in cc)
front_word c ((d ∷ ds) ∷ ws) b e =
    let h = both (is_word (d ∷ ds)) (list_all is_word ws) e in
    rw (b, h.0, h.1) refl

single : (c : ℕ) (ws : List (List ℕ)) → is_word_byte c ≡ true → list_all is_word ws ≡ true → list_all is_word ((c ∷ []) ∷ ws) ≡ true
single c ws b e = rw (b, e) refl

words_case : (b d : Bool) (c e : ℕ) (cs : List ℕ) → is_blank c ≡ b → is_blank e ≡ d → is_plain c ≡ true → list_all is_word (words_of (e ∷ cs)) ≡ true → list_all is_word (words_of (c ∷ e ∷ cs)) ≡ true
words_case true d c e cs blank next p ih = rw (word_skips c (e ∷ cs) blank) ih
words_case false true c e cs ink next p ih = rw (word_ends c e cs ink next) (single c (words_of (e ∷ cs)) (plain_byte c p ink) ih)
words_case false false c e cs ink next p ih = rw (word_more c e cs ink next) (front_word c (words_of (e ∷ cs)) (plain_byte c p ink) ih)

last_case : (b : Bool) (c : ℕ) → is_blank c ≡ b → is_plain c ≡ true → list_all is_word (words_of (c ∷ [])) ≡ true
last_case true c blank p = rw (word_skips c [] blank, no_words) refl
last_case false c ink p = rw (word_alone c ink, no_words) (single c [] (plain_byte c p ink) refl)

words_are_words : (bytes : List ℕ) → list_all is_plain bytes ≡ true → list_all is_word (words_of bytes) ≡ true
words_are_words [] e = rw no_words refl
words_are_words (c ∷ []) e = last_case (is_blank c) c refl (both (is_plain c) true e).0
words_are_words (c ∷ d ∷ cs) e =
    let h = both (is_plain c) (list_all is_plain (d ∷ cs)) e in
    words_case (is_blank c) (is_blank d) c d cs refl refl h.0 (words_are_words (d ∷ cs) h.1)

front_case : (b : Bool) (c : ℕ) (cs : List ℕ) → not (c == 35) ≡ b → is_allowed c ≡ true → list_all is_plain (before_comment cs) ≡ true → list_all is_plain (before_comment (c ∷ cs)) ≡ true
front_case true c cs free a ih =
    let step = take_while-cons (λ x. not (x == 35)) c cs in
    rw (step, free) (and_true (is_plain c) (list_all is_plain (before_comment cs)) (and_true (is_allowed c) (not (c == 35)) a free) ih)
front_case false c cs free a ih = let step = take_while-cons (λ x. not (x == 35)) c cs in rw (step, free) refl

plain_front : (line : List ℕ) → list_all is_allowed line ≡ true → list_all is_plain (before_comment line) ≡ true
plain_front [] e = refl
plain_front (c ∷ cs) e =
    let h = both (is_allowed c) (list_all is_allowed cs) e in
    front_case (not (c == 35)) c cs refl h.0 (plain_front cs h.1)

not_bad : (b : Bool) → not b ≡ false → b ≡ true
not_bad true e = refl
not_bad false e = absurd (let f : true ≡ false = e in cc)

-- the words of a line without a bad byte
pub line_words_are_words : (line : List ℕ) → has_bad_byte line ≡ false → list_all is_word (line_words line) ≡ true
line_words_are_words line e = words_are_words (before_comment line) (plain_front line (not_bad (list_all is_allowed line) e))

digit_byte : (c : ℕ) → is_digit c ≡ true → is_word_byte c ≡ true
digit_byte c e = search rules

digit_bytes : (cs : List ℕ) → list_all is_digit cs ≡ true → list_all is_word_byte cs ≡ true
digit_bytes [] e = refl
digit_bytes (c ∷ cs) e =
    let h = both (is_digit c) (list_all is_digit cs) e in
    and_true (is_word_byte c) (list_all is_word_byte cs) (digit_byte c h.0) (digit_bytes cs h.1)

pub bytes_are_word : (cs : List ℕ) → 0 < length cs → list_all is_word_byte cs ≡ true → is_word cs ≡ true
bytes_are_word [] some e = absurd (omega arith)
bytes_are_word (c ∷ cs) some e = e

pub digits_are_word : (cs : List ℕ) → 0 < length cs → list_all is_digit cs ≡ true → is_word cs ≡ true
digits_are_word cs some e = bytes_are_word cs some (digit_bytes cs e)
