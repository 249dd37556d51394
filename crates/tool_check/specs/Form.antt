-- The forms of a trace's lines: the word of each, and what stands behind it. The trace format is this project's own.
use Rattle.std.specs.Prelude.{ℕ, ◌+◌, List, [], ◌∷◌, codes}
use Rattle.tool_check.specs.declared.form.Form.{Form}
use Rattle.tool_check.specs.declared.form.Form.TheVariants as form
use Rattle.tool_check.specs.declared.form.Part.{Part}
use Rattle.tool_check.specs.declared.form.Part.TheVariants as part

-- the word that says the form of a line
abbrev pub form_word : Form → List ℕ
form_word form.Dispatch = codes "dispatch"
form_word form.Idle = codes "idle"
form_word form.Start = codes "start"
form_word form.Return = codes "return"
form_word form.Deliver = codes "deliver"
form_word form.Activate = codes "activate"
form_word form.Exhaust = codes "exhaust"
form_word form.Plan = codes "plan"
form_word form.Refill = codes "refill"
form_word form.Cancel = codes "cancel"
form_word form.Exit = codes "exit"
form_word form.Killed = codes "killed"
form_word form.End = codes "end"
form_word form.Thread = codes "thread"
form_word form.Budget = codes "thread"

-- what stands behind the word of the form
abbrev pub parts : Form → List Part
parts form.Dispatch = part.Name ∷ part.Number ∷ []
parts form.Idle = []
parts form.Start = part.Name ∷ []
parts form.Return = part.Name ∷ part.Call ∷ part.Answer ∷ part.Number ∷ []
parts form.Deliver = part.Name ∷ part.Signal ∷ part.Code ∷ part.Number ∷ []
parts form.Activate = part.Name ∷ part.Number ∷ []
parts form.Exhaust = part.Name ∷ []
parts form.Plan = part.Name ∷ part.Number ∷ part.Number ∷ []
parts form.Refill = part.Name ∷ part.Number ∷ part.Number ∷ []
parts form.Cancel = part.Name ∷ []
parts form.Exit = part.Name ∷ []
parts form.Killed = part.Signal ∷ []
parts form.End = []
parts form.Thread = part.Name ∷ part.Ticks ∷ part.Number ∷ []
parts form.Budget =
    part.Name ∷ part.Ticks ∷ part.Number ∷ part.High ∷ part.Number ∷ part.Init ∷ part.Number ∷ part.Refilled ∷ part.Number ∷ part.Capacity ∷ part.Number ∷ []

-- how many numbers stand in these places
abbrev pub numbers_in : List Part → ℕ
numbers_in [] = 0
numbers_in (part.Number ∷ ps) = 1 + numbers_in ps
numbers_in (part.Signal ∷ ps) = 1 + numbers_in ps
numbers_in (p ∷ ps) = numbers_in ps
