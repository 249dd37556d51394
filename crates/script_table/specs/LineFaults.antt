-- The pattern of a line, and the faults of phase 1 that a line has by itself. This project's own.
use Rattle.std.specs.Prelude.{ℕ, ◌&&◌, ◌||◌, Bool, true, false, if◌then◌else◌, List, [], ◌∷◌, Option, None, Some, is_some, find, option_to_list, ◌++◌}
use Rattle.std.specs.Str.{bytes_eq}
use Rattle.std.specs.List.{list_any}
use Rattle.words_script.specs.Names.{is_name}
use Rattle.script_table.specs.declared.faults.FaultKind.{FaultKind}
use Rattle.script_table.specs.declared.faults.FaultKind.TheVariants.{UnknownWord, WordCount, BadNumber, BadName}
use Rattle.script_table.specs.Words.{is_number, is_register, signal_of, set_of, answer_of}
use Rattle.script_table.specs.Patterns.{Spot, Keyword, Answer, Number, Operand, Declares, Uses, Signal, Acts, Signals, Row}

-- a keyword stands at its place
abbrev pub stands : Spot → List ℕ → Bool
stands (Keyword k) word = bytes_eq word k
stands Answer word = is_some (answer_of word)
stands other word = true

-- each keyword stands at its place, or the line is too short to have that place
abbrev pub agrees : List Spot → List (List ℕ) → Bool
agrees [] words = true
agrees (spot ∷ spots) [] = true
agrees (spot ∷ spots) (word ∷ words) = stands spot word && agrees spots words

-- the pattern agrees with the line and has its number of words
abbrev pub fits : List Spot → List (List ℕ) → Bool
fits [] [] = true
fits [] (word ∷ words) = false
fits (spot ∷ spots) [] = false
fits (spot ∷ spots) (word ∷ words) = stands spot word && fits spots words

-- a pattern of the table agrees with the line
abbrev pub any_agrees : List Row → List (List ℕ) → Bool
any_agrees rows words = list_any (λ row. agrees row.places words) rows

-- the pattern of the table that agrees with the line and has its number of words
abbrev pub fitting_row : List Row → List (List ℕ) → Option Row
fitting_row rows words = find (λ row. fits row.places words) rows

-- what each place's test says of the word that stands there
abbrev pub place_faults : (Spot → List ℕ → Option FaultKind) → List Spot → List (List ℕ) → List FaultKind
place_faults test [] words = []
place_faults test (spot ∷ spots) [] = []
place_faults test (spot ∷ spots) (word ∷ words) = option_to_list (test spot word) ++ place_faults test spots words

abbrev pub unless : Bool → FaultKind → Option FaultKind
unless holds kind = if holds then None else Some kind

-- whether a word is spelled as its place wants
abbrev pub spelling : Spot → List ℕ → Option FaultKind
spelling (Keyword k) word = None
spelling Answer word = None
spelling (Number low high) word = unless (is_number word) BadNumber
spelling Operand word = unless (is_number word || is_register word) BadNumber
spelling (Declares kind) word = unless (is_name word) BadName
spelling (Uses kind) word = unless (is_name word) BadName
spelling Signal word = unless (is_some (signal_of word)) BadName
spelling Acts word = unless (is_some (signal_of word)) BadName
spelling Signals word = unless (is_some (set_of word)) BadName

-- the pattern of a line's words; none where there are none, or no pattern fits
abbrev pub fitting_some : List Row → List (List ℕ) → Option Row
fitting_some rows [] = None
fitting_some rows (word ∷ words) = fitting_row rows (word ∷ words)

abbrev pub unknown_faults : List Row → List (List ℕ) → List FaultKind
unknown_faults rows [] = []
unknown_faults rows (word ∷ words) = (if any_agrees rows (word ∷ words) then WordCount else UnknownWord) ∷ []

abbrev pub faults_by : Option Row → List Row → List (List ℕ) → List FaultKind
faults_by None rows words = unknown_faults rows words
faults_by (Some row) rows words = place_faults spelling row.places words
