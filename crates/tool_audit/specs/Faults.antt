-- Faults of a head of servers. Their kinds, their numbers and their order are this project's own.
use Rattle.std.specs.Prelude.{ℕ, Bool, if◌then◌else◌, List, [], ◌∷◌, map, codes}
use Rattle.tool_audit.specs.declared.fault.HeadFault.{HeadFault}
use Rattle.tool_audit.specs.declared.fault.HeadFault.TheVariants.{BadByte, UnknownWord, WordCount, BadNumber, NumberRange, BadName, DuplicateName, TooMany, ServerRange}

abbrev pub number_of : HeadFault → ℕ
number_of BadByte = 1
number_of UnknownWord = 2
number_of WordCount = 3
number_of BadNumber = 4
number_of NumberRange = 5
number_of BadName = 6
number_of DuplicateName = 7
number_of TooMany = 13
number_of ServerRange = 15

abbrev pub name_of : HeadFault → List ℕ
name_of BadByte = codes "BadByte"
name_of UnknownWord = codes "UnknownWord"
name_of WordCount = codes "WordCount"
name_of BadNumber = codes "BadNumber"
name_of NumberRange = codes "NumberRange"
name_of BadName = codes "BadName"
name_of DuplicateName = codes "DuplicateName"
name_of TooMany = codes "TooMany"
name_of ServerRange = codes "ServerRange"

pub record Fault : Type 0 where
  pub line : ℕ
  pub kind : HeadFault

-- the kind, where it is so
abbrev pub when : Bool → HeadFault → List HeadFault
when holds kind = if holds then kind ∷ [] else []

-- the faults of a line
abbrev pub faults_at : ℕ → List HeadFault → List Fault
faults_at line kinds = map (λ kind. record { line = line; kind = kind }) kinds
