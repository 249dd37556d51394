-- What is answered where the reading of a source ended before its end. This project's own.
use Rattle.std.specs.Prelude.{◌≡◌, ◌⊎◌, []}
use Rattle.parts_io.specs.declared.whole.ReadEnd.{ReadEnd}
use Rattle.parts_io.specs.declared.whole.ReadEnd.TheVariants.{ReadFault, TooLong, OutOfMemory}
use Rattle.tool_answers.specs.declared.status.Status.{Status}
use Rattle.tool_answers.specs.declared.status.Status.TheVariants as status
use Rattle.tool_answers.specs.Answer.{Answer, too_long_line}

abbrev pub end_answer : ReadEnd → Answer
end_answer TooLong = record { status = status.TooLong; text = too_long_line }
end_answer ReadFault = record { status = status.ReadFault; text = [] }
end_answer OutOfMemory = record { status = status.OutOfMemory; text = [] }

-- a status that comes with such an end
abbrev pub IsOfEnd : ReadEnd → Status → Type 0
IsOfEnd TooLong s = (s ≡ status.TooLong) ⊎ (s ≡ status.WriteFault)
IsOfEnd ReadFault s = s ≡ status.ReadFault
IsOfEnd OutOfMemory s = s ≡ status.OutOfMemory
