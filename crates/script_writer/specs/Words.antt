-- How numbers, operands, signals and sets of signals are written. The text format is this project's own.
use Rattle.std.specs.Prelude.{ℕ, ◌==◌, Bool, true, false, if◌then◌else◌, List, [], ◌∷◌, ◌++◌, map, filter, codes, decimal}
use Rattle.std.specs.List.{range_with_len}
use Rattle.words_numbers.specs.Signals.{every_signal, has_signal}
use Rattle.words_numbers.specs.Words.{signal_word}
use Rattle.words_script.specs.declared.call.Moment.{Moment}
use Rattle.words_script.specs.declared.call.Moment.TheVariants.{Monotonic, Realtime}
use Rattle.words_script.specs.declared.call.Operand.{Operand}
use Rattle.words_script.specs.declared.call.Operand.TheVariants.{Num, Reg}

-- an operand: a number, or the register
abbrev pub operand_word : Operand → List ℕ
operand_word (Num n) = decimal n
operand_word Reg = codes "reg"

-- an absolute time, and the word of its clock where it is CLOCK_REALTIME
abbrev pub moment_words : Moment → List (List ℕ)
moment_words (Monotonic at) = operand_word at ∷ []
moment_words (Realtime at) = operand_word at ∷ codes "real" ∷ []

-- the signals of a set, rising
abbrev pub signals_of : ℕ → List ℕ
signals_of set = filter (has_signal set) (range_with_len 0 32)

-- a comma before each word
abbrev pub after_commas : List (List ℕ) → List ℕ
after_commas [] = []
after_commas (w ∷ ws) = 44 ∷ (w ++ after_commas ws)

-- one comma between words
abbrev pub joined_by_commas : List (List ℕ) → List ℕ
joined_by_commas [] = []
joined_by_commas (w ∷ ws) = w ++ after_commas ws

abbrev pub is_nil : {X : Type 0} → List X → Bool
is_nil [] = true
is_nil (x ∷ xs) = false

-- a word that stands in a list, with a comma before it unless it is the first
abbrev pub listed : Bool → List ℕ → List ℕ
listed is_first word = if is_first then word else 44 ∷ word

-- a set of signals: all of them, none, or the signals rising
abbrev pub set_word : ℕ → List ℕ
set_word set =
    if set == every_signal then codes "all"
    else if set == 0 then codes "none"
    else joined_by_commas (map signal_word (signals_of set))
