-- The exit statuses of the program.
use Rattle.std.specs.Prelude.{ℕ}
use Rattle.tool_answers.specs.declared.status.Status.{Status}
use Rattle.tool_answers.specs.declared.status.Status.TheVariants.{Done, Usage, Refused, TooLong, ReadFault, WriteFault, OutOfMemory, Differs, NoTrace, Breach}

abbrev pub status_number : Status → ℕ
status_number Done = 0
status_number Usage = 1
status_number Refused = 2
status_number TooLong = 3
status_number ReadFault = 4
status_number WriteFault = 5
status_number OutOfMemory = 6
status_number Differs = 7
status_number NoTrace = 8
status_number Breach = 9

-- a status of a command that reads nothing
abbrev pub IsWithoutSource : Status → Type 0
IsWithoutSource Done = Unit {0}
IsWithoutSource WriteFault = Unit {0}
IsWithoutSource OutOfMemory = Unit {0}
IsWithoutSource Refused = ⊥
IsWithoutSource Differs = ⊥
IsWithoutSource NoTrace = ⊥
IsWithoutSource Breach = ⊥
IsWithoutSource Usage = ⊥
IsWithoutSource TooLong = ⊥
IsWithoutSource ReadFault = ⊥
