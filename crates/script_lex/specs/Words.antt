-- The words of a line. The text format is this project's own.
use Rattle.std.specs.Prelude.{ℕ, ◌≡◌, ◌==◌, ◌&&◌, ◌||◌, ◌+◌, nat_le, not, Bool, true, false, if◌then◌else◌, List, [], ◌∷◌, length, take, drop}
use Rattle.std.specs.List.{take_while, list_all}

-- a tab or a blank
abbrev pub is_blank : ℕ → Bool
is_blank c = c == 9 || c == 32

-- a tab, a blank, or a printed byte
abbrev pub is_allowed : ℕ → Bool
is_allowed c = c == 9 || (nat_le 32 c && nat_le c 126)

abbrev pub has_bad_byte : List ℕ → Bool
has_bad_byte line = not (list_all is_allowed line)

-- what stands before a comment, which begins at a byte 35
abbrev pub before_comment : List ℕ → List ℕ
before_comment line = take_while (λ c. not (c == 35)) line

-- a byte before the first member of a list
abbrev pub onto_first : ℕ → List (List ℕ) → List (List ℕ)
onto_first c [] = (c ∷ []) ∷ []
onto_first c (l ∷ ls) = (c ∷ l) ∷ ls

-- the words, where c is no blank, cs follows it, and ws are the words of cs
abbrev pub onto_word : ℕ → List ℕ → List (List ℕ) → List (List ℕ)
onto_word c [] ws = (c ∷ []) ∷ ws
onto_word c (d ∷ ds) ws = if is_blank d then (c ∷ []) ∷ ws else onto_first c ws

-- the longest runs of bytes that are no blanks
unfoldable pub words_of : List ℕ → List (List ℕ)
words_of [] = []
words_of (c ∷ cs) = if is_blank c then words_of cs else onto_word c cs (words_of cs)

-- the places of bytes that begin a word, where at is the place of the first byte; a word begins
-- at a byte that is no blank and stands first or after a blank
unfoldable pub starts_of : Bool → ℕ → List ℕ → List ℕ
starts_of after_blank at [] = []
starts_of after_blank at (c ∷ cs) =
    if is_blank c then starts_of true (at + 1) cs
    else if after_blank then at ∷ starts_of false (at + 1) cs else starts_of false (at + 1) cs

abbrev pub places_of : ℕ → List ℕ → List ℕ
places_of at line = starts_of true at line

abbrev pub line_words : List ℕ → List (List ℕ)
line_words line = words_of (before_comment line)

abbrev pub line_places : List ℕ → List ℕ
line_places line = places_of 0 (before_comment line)

-- each word is the slice of the line that begins at its place
abbrev pub StandAt : List ℕ → List (List ℕ) → List ℕ → Type 0
StandAt line [] [] = Unit {0}
StandAt line [] (p ∷ ps) = ⊥
StandAt line (w ∷ ws) [] = ⊥
StandAt line (w ∷ ws) (p ∷ ps) = (take (length w) (drop p line) ≡ w) × StandAt line ws ps

-- the words that are ahead in a line, and the place of each
pub record WordsAhead : Type 0 where
  pub words : List (List ℕ)
  pub places : List ℕ
