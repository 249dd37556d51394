-- The lines of a text. The text format is this project's own.
use Rattle.std.specs.Prelude.{ℕ, ◌==◌, if◌then◌else◌, List, [], ◌∷◌}
use Rattle.script_lex.specs.Words.{onto_first}
pub use Rattle.script_lex.specs.Words.{words_of, line_words, line_places, has_bad_byte, is_blank}

-- the lines: each ends at a byte 10, and the last may lack it
unfoldable pub lines_of : List ℕ → List (List ℕ)
lines_of [] = []
lines_of (c ∷ cs) = if c == 10 then [] ∷ lines_of cs else onto_first c (lines_of cs)

-- the lines that are ahead, and the number of the first
pub record Ahead : Type 0 where
  pub number : ℕ
  pub lines : List (List ℕ)
