-- The canonical words of a line that has a pattern. The text format is this project's own.
use Rattle.std.specs.Prelude.{ℕ, if◌then◌else◌, List, [], ◌∷◌, decimal, unwrap_or}
use Rattle.script_table.specs.Patterns.{Spot, Keyword, Answer, Number, Operand, Declares, Uses, Signal, Acts, Signals}
use Rattle.script_table.specs.Words.{value_of, is_register, set_of}
use Rattle.script_writer.specs.Words.{set_word}

-- how the word at a place is written: a number without leading zeros, a set with its signals rising, others as they are
abbrev pub canonical_word : Spot → List ℕ → List ℕ
canonical_word (Keyword k) word = word
canonical_word Answer word = word
canonical_word (Number low high) word = decimal (value_of word)
canonical_word Operand word = if is_register word then word else decimal (value_of word)
canonical_word (Declares kind) word = word
canonical_word (Uses kind) word = word
canonical_word Signal word = word
canonical_word Acts word = word
canonical_word Signals word = set_word (unwrap_or (set_of word) 0)

abbrev pub canonical_words : List Spot → List (List ℕ) → List (List ℕ)
canonical_words [] words = []
canonical_words (spot ∷ spots) [] = []
canonical_words (spot ∷ spots) (word ∷ words) = canonical_word spot word ∷ canonical_words spots words
