-- What is joined is split again: lines of their text, and words of their line.
use Rattle.std.proofs.Common.{◌≡◌, ℕ, List, [], ◌∷◌, ◌++◌, refl, ◌∙◌, ap, Bool, true, false, not, rules}
use Rattle.std.specs.Prelude.{◌==◌, ◌&&◌, map}
use Rattle.std.specs.List.{list_all, take_while}
use Rattle.std.proofs.lemmas.List.Sums.{take_while-cons}
use Rattle.script_lex.specs.Lines.{lines_of}
use Rattle.script_lex.specs.Words.{onto_first, words_of, is_blank, is_allowed, has_bad_byte, line_words}
use Rattle.script_lex.specs.Joined.{joined_lines, joined_words, after_blanks, is_word_byte, is_word}
use Rattle.script_lex.proofs.Split.{no_lines, no_words, word_more}

pub both : (a b : Bool) → (a && b) ≡ true → (a ≡ true) × (b ≡ true)
both true b e = (refl, e)
both false b e = absurd (let f : false ≡ true = e in cc)

-- what is known of a byte of a word
pub record WordByte (c : ℕ) : Type 0 where
  pub no_blank : is_blank c ≡ false
  pub no_comment : not (c == 35) ≡ true
  pub no_line_end : not (c == 10) ≡ true
  pub allowed : is_allowed c ≡ true

pub word_byte : (c : ℕ) → is_word_byte c ≡ true → WordByte c
word_byte c e = record { no_blank = search rules; no_comment = search rules; no_line_end = search rules; allowed = search rules }

abbrev WordBytes : List ℕ → Type 0
WordBytes [] = Unit {0}
WordBytes (c ∷ cs) = WordByte c × WordBytes cs

word_bytes : (cs : List ℕ) → list_all is_word_byte cs ≡ true → WordBytes cs
word_bytes [] e = tt
word_bytes (c ∷ cs) e = let h = both (is_word_byte c) (list_all is_word_byte cs) e in (word_byte c h.0, word_bytes cs h.1)

bytes_of : (w : List ℕ) → is_word w ≡ true → WordBytes w
bytes_of [] e = tt
bytes_of (c ∷ cs) e = word_bytes (c ∷ cs) e

-- what follows a word: nothing, or a blank
abbrev Stops : List ℕ → Type 0
Stops [] = Unit {0}
Stops (c ∷ cs) = is_blank c ≡ true

word_ends : (c : ℕ) (rest : List ℕ) → is_blank c ≡ false → Stops rest → words_of (c ∷ rest) ≡ (c ∷ []) ∷ words_of rest
unfolding words_of
word_ends c [] ink s = rw ink refl
word_ends c (d ∷ rest) ink s = rw (ink, s) refl

word_then : (c : ℕ) (cs rest : List ℕ) → WordBytes (c ∷ cs) → Stops rest → words_of ((c ∷ cs) ++ rest) ≡ (c ∷ cs) ∷ words_of rest
word_then c [] rest h s = word_ends c rest h.0.no_blank s
word_then c (d ∷ cs) rest h s = word_more c d (cs ++ rest) h.0.no_blank h.1.0.no_blank ∙ ap (onto_first c) (word_then d cs rest h.1 s)

stops : (ws : List (List ℕ)) → Stops (after_blanks ws)
stops [] = tt
stops (w ∷ ws) = refl

first_back : (w : List ℕ) (ws : List (List ℕ)) → is_word w ≡ true → words_of (w ++ after_blanks ws) ≡ w ∷ words_of (after_blanks ws)
first_back [] ws h = absurd (let f : false ≡ true = h in cc)
first_back (c ∷ cs) ws h = word_then c cs (after_blanks ws) (word_bytes (c ∷ cs) h) (stops ws)

blank_first : (bs : List ℕ) → words_of (32 ∷ bs) ≡ words_of bs
unfolding words_of
blank_first bs = refl

words_of-after : (ws : List (List ℕ)) → list_all is_word ws ≡ true → words_of (after_blanks ws) ≡ ws
words_of-after [] h = no_words
words_of-after (w ∷ ws) h =
    let e = both (is_word w) (list_all is_word ws) h in
    blank_first (w ++ after_blanks ws) ∙ (first_back w ws e.0 ∙ ap (λ r. w ∷ r) (words_of-after ws e.1))

pub words_of-joined : (ws : List (List ℕ)) → list_all is_word ws ≡ true → words_of (joined_words ws) ≡ ws
words_of-joined [] h = no_words
words_of-joined (w ∷ ws) h =
    let e = both (is_word w) (list_all is_word ws) h in
    first_back w ws e.0 ∙ ap (λ r. w ∷ r) (words_of-after ws e.1)

-- a test that blanks and bytes of words pass
abbrev Passes : (ℕ → Bool) → Type 0
Passes p = (p 32 ≡ true) × ((c : ℕ) → WordByte c → p c ≡ true)

and_true : (a b : Bool) → a ≡ true → b ≡ true → (a && b) ≡ true
and_true a b p q = rw (p, q) refl

all_before : (p : ℕ → Bool) → Passes p → (cs rest : List ℕ) → WordBytes cs → list_all p rest ≡ true → list_all p (cs ++ rest) ≡ true
all_before p h [] rest w e = e
all_before p h (c ∷ cs) rest w e = and_true (p c) (list_all p (cs ++ rest)) (h.1 c w.0) (all_before p h cs rest w.1 e)

all_after : (p : ℕ → Bool) → Passes p → (ws : List (List ℕ)) → list_all is_word ws ≡ true → list_all p (after_blanks ws) ≡ true
all_after p h [] e = refl
all_after p h (w ∷ ws) e =
    let k = both (is_word w) (list_all is_word ws) e in
    and_true (p 32) (list_all p (w ++ after_blanks ws)) h.0 (all_before p h w (after_blanks ws) (bytes_of w k.0) (all_after p h ws k.1))

all_joined : (p : ℕ → Bool) → Passes p → (ws : List (List ℕ)) → list_all is_word ws ≡ true → list_all p (joined_words ws) ≡ true
all_joined p h [] e = refl
all_joined p h (w ∷ ws) e =
    let k = both (is_word w) (list_all is_word ws) e in
    all_before p h w (after_blanks ws) (bytes_of w k.0) (all_after p h ws k.1)

take_while_all : (p : ℕ → Bool) (cs : List ℕ) → list_all p cs ≡ true → take_while p cs ≡ cs
take_while_all p [] e = refl
take_while_all p (c ∷ cs) e =
    let h = both (p c) (list_all p cs) e in
    take_while-cons p c cs ∙ rw h.0 (ap (λ xs. c ∷ xs) (take_while_all p cs h.1))

-- the words of a line that was made of words
pub line_words-joined : (ws : List (List ℕ)) → list_all is_word ws ≡ true → line_words (joined_words ws) ≡ ws
line_words-joined ws e =
    let p : ℕ → Bool = λ c. not (c == 35) in
    let all : list_all p (joined_words ws) ≡ true = all_joined p (refl, λ c h. h.no_comment) ws e in
    ap words_of (take_while_all p (joined_words ws) all) ∙ words_of-joined ws e

pub has_bad_byte-joined : (ws : List (List ℕ)) → list_all is_word ws ≡ true → has_bad_byte (joined_words ws) ≡ false
has_bad_byte-joined ws e = ap not (all_joined is_allowed (refl, λ c h. h.allowed) ws e)

abbrev is_inner : ℕ → Bool
is_inner c = not (c == 10)

at_end : (b : Bool) → not b ≡ true → b ≡ false
at_end true e = absurd (let f : false ≡ true = e in cc)
at_end false e = refl

line_then : (l rest : List ℕ) → list_all is_inner l ≡ true → lines_of (l ++ 10 ∷ rest) ≡ l ∷ lines_of rest
unfolding lines_of
line_then [] rest h = refl
line_then (c ∷ l) rest h =
    let e = both (is_inner c) (list_all is_inner l) h in
    let no : (c == 10) ≡ false = at_end (c == 10) e.0 in
    rw no (ap (onto_first c) (line_then l rest e.1))

-- the lines of a text that was made of lines of words
pub lines_of-joined : (lines : List (List (List ℕ))) → list_all (λ ws. list_all is_word ws) lines ≡ true → lines_of (joined_lines (map joined_words lines)) ≡ map joined_words lines
lines_of-joined [] h = no_lines
lines_of-joined (ws ∷ lines) h =
    let e = both (list_all is_word ws) (list_all (λ x. list_all is_word x) lines) h in
    line_then (joined_words ws) (joined_lines (map joined_words lines)) (all_joined is_inner (refl, λ c k. k.no_line_end) ws e.0)
    ∙ ap (λ r. joined_words ws ∷ r) (lines_of-joined lines e.1)
