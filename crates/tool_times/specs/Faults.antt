-- Faults of a text of tasks. Their kinds and their order are this project's own.
use Rattle.std.specs.Prelude.{ℕ, Bool, if◌then◌else◌, List, [], ◌∷◌, map, codes}
use Rattle.tool_times.specs.declared.fault.TaskFault.{TaskFault}
use Rattle.tool_times.specs.declared.fault.TaskFault.TheVariants.{BadByte, UnknownWord, WordCount, BadNumber, NumberRange, BadName, DuplicateName, SamePriority, NoTask}

abbrev pub number_of : TaskFault → ℕ
number_of BadByte = 1
number_of UnknownWord = 2
number_of WordCount = 3
number_of BadNumber = 4
number_of NumberRange = 5
number_of BadName = 6
number_of DuplicateName = 7
number_of SamePriority = 17
number_of NoTask = 18

abbrev pub name_of : TaskFault → List ℕ
name_of BadByte = codes "BadByte"
name_of UnknownWord = codes "UnknownWord"
name_of WordCount = codes "WordCount"
name_of BadNumber = codes "BadNumber"
name_of NumberRange = codes "NumberRange"
name_of BadName = codes "BadName"
name_of DuplicateName = codes "DuplicateName"
name_of SamePriority = codes "SamePriority"
name_of NoTask = codes "NoTask"

-- a fault of a text
pub record Fault : Type 0 where
  pub line : ℕ
  pub kind : TaskFault

-- the kind, where it is so
abbrev pub when : Bool → TaskFault → List TaskFault
when holds kind = if holds then kind ∷ [] else []

-- the faults of a line
abbrev pub faults_at : ℕ → List TaskFault → List Fault
faults_at line kinds = map (λ kind. record { line = line; kind = kind }) kinds
