-- What is told of a trace that is not the one that is due. This project's own.
use Rattle.std.specs.Prelude.{ℕ, ◌-◌, List, ◌++◌, Option, None, Some, codes, decimal, slice_get}
use Rattle.script_lex.specs.Lines.{lines_of}
use Rattle.tool_check.specs.Difference.{difference}
use Rattle.tool_check.specs.Form.{form_word}
use Rattle.tool_check.specs.Lines.{Reading, reading}

-- the line of this number, from 1
abbrev pub line_at : List ℕ → ℕ → Option (List ℕ)
line_at text number = slice_get (lines_of text) (number - 1)

-- a line, or the word `nothing`
abbrev pub line_or_nothing : Option (List ℕ) → List ℕ
line_or_nothing None = codes "nothing"
line_or_nothing (Some line) = line

-- the word of a line's form, or `text`
abbrev pub word_of_reading : Option Reading → List ℕ
word_of_reading None = codes "text"
word_of_reading (Some r) = form_word r.form

abbrev pub word_or_nothing : Option (List ℕ) → List ℕ
word_or_nothing None = codes "nothing"
word_or_nothing (Some line) = word_of_reading (reading line)

-- the line that differs, by its number; what is due there, and what stands there
abbrev pub difference_text : ℕ → Option (List ℕ) → Option (List ℕ) → List ℕ
difference_text number due there =
    codes "differs " ++ decimal number ++ codes "\nwant " ++ line_or_nothing due ++ codes "\nhave " ++ word_or_nothing there ++ codes "\n"

abbrev pub comparison_at : Option ℕ → List ℕ → List ℕ → Option (List ℕ)
comparison_at None have want = None
comparison_at (Some number) have want = Some (difference_text number (line_at want number) (line_at have number))

-- none where the texts are equal
abbrev pub comparison : List ℕ → List ℕ → Option (List ℕ)
comparison have want = comparison_at (difference have want) have want
