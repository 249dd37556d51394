-- The words of a line that is being written.
use Rattle.std.specs.Prelude.{ℕ, ◌+◌, ◌≤◌, List, [], ◌∷◌, length, decimal, ◌++◌}
use Rattle.script_lex.specs.Joined.{joined_words}
use Rattle.script_writer.specs.declared.line.Word.{Word}
use Rattle.script_writer.specs.declared.line.Word.TheVariants.{Keyword, Name, Number, Value, Signal, Signals}
use Rattle.script_writer.specs.Words.{operand_word, set_word}
use Rattle.words_numbers.specs.Words.{signal_word}

-- how a word is spelled
abbrev pub spelled : Word → List ℕ
spelled (Keyword k) = k.now
spelled (Name n) = n.now
spelled (Number n) = decimal n
spelled (Value v) = operand_word v
spelled (Signal sig) = signal_word sig
spelled (Signals set) = set_word set

-- the most bytes that a word takes with a blank or a line end
abbrev pub width : Word → ℕ
width (Keyword k) = 17
width (Name n) = 33
width (Number n) = 21
width (Value v) = 21
width (Signal sig) = 6
width (Signals set) = 193

abbrev pub total_width : List Word → ℕ
total_width [] = 0
total_width (w ∷ ws) = width w + total_width ws

-- the text of a line with its end
abbrev pub line_text : List (List ℕ) → List ℕ
line_text words = joined_words words ++ 10 ∷ []

-- a keyword has at most 16 bytes, and a name at most 32
abbrev pub IsShort : Word → Type 0
IsShort (Keyword k) = length k.now ≤ 16
IsShort (Name n) = length n.now ≤ 32
IsShort other = Unit {0}

abbrev pub AreShort : List Word → Type 0
AreShort [] = Unit {0}
AreShort (w ∷ ws) = IsShort w × AreShort ws
