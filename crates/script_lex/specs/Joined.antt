-- A text made of lines, and a line made of words.
use Rattle.std.specs.Prelude.{ℕ, ◌==◌, ◌&&◌, nat_le, not, Bool, false, List, [], ◌∷◌, ◌++◌}
use Rattle.std.specs.List.{list_all}

-- each line with its end
abbrev pub joined_lines : List (List ℕ) → List ℕ
joined_lines [] = []
joined_lines (l ∷ ls) = l ++ 10 ∷ joined_lines ls

-- one blank before each word
abbrev pub after_blanks : List (List ℕ) → List ℕ
after_blanks [] = []
after_blanks (w ∷ ws) = 32 ∷ (w ++ after_blanks ws)

-- one blank between words
abbrev pub joined_words : List (List ℕ) → List ℕ
joined_words [] = []
joined_words (w ∷ ws) = w ++ after_blanks ws

-- a printed byte that begins no comment
abbrev pub is_word_byte : ℕ → Bool
is_word_byte c = nat_le 33 c && (nat_le c 126 && not (c == 35))

-- what a line can have as a word
abbrev pub is_word : List ℕ → Bool
is_word [] = false
is_word (c ∷ cs) = list_all is_word_byte (c ∷ cs)
