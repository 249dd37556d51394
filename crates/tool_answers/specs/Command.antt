-- The commands of the tool: `run N`, `show N`, `detail N`, `check N`, `audit`, `upgrade`, `rta N`, `gen S` and `soak S N`, where N and S are one
-- or more decimal digits with a value up to a limit of the command's own.
use Rattle.std.specs.Prelude.{Bool, IsTrue, true, false, not, ℕ, ◌^◌, ◌≤◌, ◌&&◌, nat_le, if◌then◌else◌, List, [], ◌∷◌, codes, Option, None, Some}
use Rattle.std.specs.Option.{option_map}
use Rattle.std.specs.Str.{bytes_eq}
use Rattle.script_table.specs.Words.{is_number, value_of}
use Rattle.script_table.specs.Operands.{map_two}
use Rattle.tool_answers.specs.declared.command.Command.{Command}
use Rattle.tool_answers.specs.declared.command.Command.TheVariants.{Run, Show, Detail, Check, Audit, Upgrade, ResponseTimes, Gen, Soak}

-- the number that a word names, where it is at most so great
abbrev pub number_up_to : ℕ → List ℕ → Option ℕ
number_up_to most word = if is_number word && nat_le (value_of word) most then Some (value_of word) else None

abbrev pub command_of : List ℕ → List ℕ → Option Command
command_of word number =
    if bytes_eq word (codes "run") then option_map Run (number_up_to (10 ^ 18) number)
    else if bytes_eq word (codes "show") then option_map Show (number_up_to (10 ^ 18) number)
    else if bytes_eq word (codes "detail") then option_map Detail (number_up_to (10 ^ 18) number)
    else if bytes_eq word (codes "check") then option_map Check (number_up_to (10 ^ 18) number)
    else if bytes_eq word (codes "rta") then option_map ResponseTimes (number_up_to (10 ^ 8) number)
    else if bytes_eq word (codes "gen") then option_map Gen (number_up_to (10 ^ 18) number)
    else None

-- the same of a word alone
abbrev pub short_command_of : List ℕ → Option Command
short_command_of word =
    if bytes_eq word (codes "audit") then Some Audit
    else if bytes_eq word (codes "upgrade") then Some Upgrade
    else None

-- the same of a word and two numbers
abbrev pub long_command_of : List ℕ → List ℕ → List ℕ → Option Command
long_command_of word first second =
    if bytes_eq word (codes "soak") then map_two Soak (number_up_to (10 ^ 18) first) (number_up_to (10 ^ 18) second)
    else None

-- the command of the words, or none where they are no command
abbrev pub command : List (List ℕ) → Option Command
command (word ∷ []) = short_command_of word
command (word ∷ number ∷ []) = command_of word number
command (word ∷ first ∷ second ∷ []) = long_command_of word first second
command words = None

-- its numbers are within its limits
abbrev pub IsWithinLimit : Command → Type 0
IsWithinLimit (Run n) = n ≤ 10 ^ 18
IsWithinLimit (Show n) = n ≤ 10 ^ 18
IsWithinLimit (Detail n) = n ≤ 10 ^ 18
IsWithinLimit (Check n) = n ≤ 10 ^ 18
IsWithinLimit Audit = Unit {0}
IsWithinLimit Upgrade = Unit {0}
IsWithinLimit (ResponseTimes n) = n ≤ 10 ^ 8
IsWithinLimit (Gen seed) = seed ≤ 10 ^ 18
IsWithinLimit (Soak seed n) = (seed ≤ 10 ^ 18) × (n ≤ 10 ^ 18)

-- whether it reads the source; what does not is about a script that it generates
abbrev pub reads : Command → Bool
reads (Run n) = true
reads (Show n) = true
reads (Detail n) = true
reads (Check n) = true
reads Audit = true
reads Upgrade = true
reads (ResponseTimes n) = true
reads (Gen seed) = false
reads (Soak seed n) = false

-- how many bytes the source of a command may have
abbrev pub limit_of : Command → ℕ
limit_of (Run n) = 1_048_576
limit_of (Show n) = 1_048_576
limit_of (Detail n) = 1_048_576
limit_of (Check n) = 67_108_864
limit_of Audit = 67_108_864
limit_of Upgrade = 1_048_576
limit_of (ResponseTimes n) = 67_108_864
limit_of (Gen seed) = 0
limit_of (Soak seed n) = 0

-- the same of words, of which no byte is read where they are no command
abbrev pub words_limit_of : Option Command → ℕ
words_limit_of None = 0
words_limit_of (Some c) = limit_of c

abbrev pub words_limit : List (List ℕ) → ℕ
words_limit words = words_limit_of (command words)

-- the command that compares traces
abbrev pub Compares : Option Command → Type 0
Compares None = ⊥
Compares (Some (Run n)) = ⊥
Compares (Some (Show n)) = ⊥
Compares (Some (Detail n)) = ⊥
Compares (Some (Check n)) = Unit {0}
Compares (Some Audit) = ⊥
Compares (Some Upgrade) = ⊥
Compares (Some (ResponseTimes n)) = ⊥
Compares (Some (Gen seed)) = ⊥
Compares (Some (Soak seed n)) = ⊥

-- the command that audits a trace
abbrev pub Audits : Option Command → Type 0
Audits None = ⊥
Audits (Some (Run n)) = ⊥
Audits (Some (Show n)) = ⊥
Audits (Some (Detail n)) = ⊥
Audits (Some (Check n)) = ⊥
Audits (Some Audit) = Unit {0}
Audits (Some Upgrade) = ⊥
Audits (Some (ResponseTimes n)) = ⊥
Audits (Some (Gen seed)) = ⊥
Audits (Some (Soak seed n)) = ⊥

-- a command whose source is divided by a line `%%`
abbrev pub Divides : Option Command → Type 0
Divides None = ⊥
Divides (Some (Run n)) = ⊥
Divides (Some (Show n)) = ⊥
Divides (Some (Detail n)) = ⊥
Divides (Some (Check n)) = Unit {0}
Divides (Some Audit) = Unit {0}
Divides (Some Upgrade) = ⊥
Divides (Some (ResponseTimes n)) = ⊥
Divides (Some (Gen seed)) = ⊥
Divides (Some (Soak seed n)) = ⊥

-- a command with a second limit: of the script in front of a trace, or of the text that it writes
abbrev pub HasSecondLimit : Option Command → Type 0
HasSecondLimit None = ⊥
HasSecondLimit (Some (Run n)) = ⊥
HasSecondLimit (Some (Show n)) = ⊥
HasSecondLimit (Some (Detail n)) = ⊥
HasSecondLimit (Some (Check n)) = Unit {0}
HasSecondLimit (Some Audit) = ⊥
HasSecondLimit (Some Upgrade) = Unit {0}
HasSecondLimit (Some (ResponseTimes n)) = ⊥
HasSecondLimit (Some (Gen seed)) = ⊥
HasSecondLimit (Some (Soak seed n)) = ⊥

-- a command that reads the source
abbrev pub Reads : Option Command → Type 0
Reads None = ⊥
Reads (Some c) = IsTrue (reads c)

-- a command that generates a script, and leaves the source as it is
abbrev pub Generates : Option Command → Type 0
Generates None = ⊥
Generates (Some c) = IsTrue (not (reads c))
