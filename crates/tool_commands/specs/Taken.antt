-- What was taken of the source, and the answer to it. This project's own.
use Rattle.std.specs.Prelude.{ℕ, ◌≡◌, ◌≤◌, ◌+◌, ◌⊎◌, List, length, Option, Some}
use Rattle.std.specs.Io.KnownBytes.{Consumes, IsAtEnd}
use Rattle.parts_io.specs.Causes.{GrewBy}
use Rattle.parts_io.specs.Whole.{TookAtMost}
use Rattle.tool_answers.specs.declared.status.Status.{Status}
use Rattle.tool_answers.specs.declared.status.Status.TheVariants.{Done, Usage, Refused, TooLong, ReadFault, WriteFault, OutOfMemory, Differs, NoTrace, Breach}
use Rattle.tool_answers.specs.declared.command.Command.TheVariants.{ResponseTimes, Run}
use Rattle.tool_answers.specs.Command.{command, words_limit}
use Rattle.tool_answers.specs.Few.{RoundsAreFew, StepsAreFew}
use Rattle.tool_answers.specs.Answer.{answer, Told}

-- The status and the text are those of the answer to some bytes: as many as the source counted as taken, at most one more than
-- the command allows, and those that it tells where it tells any. To the same bytes the steps of a run and the rounds of response
-- times are few.
pub record Answered (words : List (List ℕ)) (status : Status) (rest_before rest_now : Option (List ℕ)) (taken_before taken_now : ℕ)
    (text_before text_now : Option (List ℕ)) (steps_before steps_now : ℕ) : Type 0 where
  pub bytes : List ℕ
  pub bound : length bytes ≤ words_limit words + 1
  pub moved : Consumes rest_before rest_now bytes
  pub count : GrewBy (length bytes) taken_before taken_now
  pub told : Told status (answer words bytes) text_before text_now
  pub busy : (n : ℕ) → command words ≡ Some (Run n) → StepsAreFew n bytes steps_before steps_now
  pub rounds : (n : ℕ) → command words ≡ Some (ResponseTimes n) → RoundsAreFew n bytes steps_before steps_now

-- the source was read to its end, which the limit allows
abbrev pub ReadWhole : ℕ → Option (List ℕ) → Option (List ℕ) → ℕ → ℕ → Type 0
ReadWhole limit rest_before rest_now taken_before taken_now = IsAtEnd rest_now × TookAtMost limit rest_before rest_now taken_before taken_now

-- or to one byte more than that limit
abbrev pub ReadToItsEnd : ℕ → Option (List ℕ) → Option (List ℕ) → ℕ → ℕ → Type 0
ReadToItsEnd limit rest_before rest_now taken_before taken_now =
    ReadWhole limit rest_before rest_now taken_before taken_now ⊎ GrewBy (limit + 1) taken_before taken_now

-- a status that is told of a text that was read whole
abbrev pub IsOfWhole : Status → Type 0
IsOfWhole Done = Unit {0}
IsOfWhole Refused = Unit {0}
IsOfWhole Differs = Unit {0}
IsOfWhole NoTrace = Unit {0}
IsOfWhole Breach = Unit {0}
IsOfWhole Usage = ⊥
IsOfWhole TooLong = ⊥
IsOfWhole ReadFault = ⊥
IsOfWhole WriteFault = ⊥
IsOfWhole OutOfMemory = ⊥
