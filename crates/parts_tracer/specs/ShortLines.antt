-- How long the lines of a text are. This project's own.
use Rattle.std.specs.Prelude.{◌≡◌, ℕ, ◌+◌, ◌==◌, nat_lt, if◌then◌else◌, is_some, Bool, true, false, List, [], ◌∷◌, Option, None, Some}

-- How many bytes stand on the last line of a text, where so many stand on its first line before the text. None where a line has more than 255
-- bytes before its line end.
abbrev pub column_after : ℕ → List ℕ → Option ℕ
column_after n [] = Some n
column_after n (c ∷ cs) = if c == 10 then column_after 0 cs else if nat_lt n 255 then column_after (n + 1) cs else None

-- each line has at most 256 bytes with its line end, and the last has one
abbrev pub AreWhole : List ℕ → Type 0
AreWhole text = column_after 0 text ≡ Some 0

-- The text is told. Each of its lines has at most 256 bytes with its line end, and the last is whole unless a write has failed.
abbrev pub HasShortLines : Bool → Option (List ℕ) → Type 0
HasShortLines failed None = ⊥
HasShortLines true (Some text) = is_some (column_after 0 text) ≡ true
HasShortLines false (Some text) = AreWhole text
