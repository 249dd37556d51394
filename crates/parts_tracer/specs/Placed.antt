-- Words and the blanks between them. This project's own.
use Rattle.std.specs.Prelude.{◌≡◌, ◌≤◌, ◌/◌, ◌%◌, ℕ, List, [], ◌∷◌, ◌++◌, decimal}

-- a blank before each word
abbrev pub blanks_before : List (List ℕ) → List ℕ
blanks_before [] = []
blanks_before (word ∷ words) = 32 ∷ word ++ blanks_before words

-- a blank before each word, and a line end behind the last
abbrev pub words_behind : List (List ℕ) → List ℕ
words_behind [] = 10 ∷ []
words_behind (word ∷ words) = 32 ∷ word ++ words_behind words

-- these are the digits that the hundred instants from one that ends in 00 share: all but the last two
abbrev pub AreShared : List ℕ → ℕ → Type 0
AreShared digits first = (first % 100 ≡ 0) × (100 ≤ first) × (digits ≡ decimal (first / 100))
