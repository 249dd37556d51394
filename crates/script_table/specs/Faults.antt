-- Faults of a text, and the least of them. Their kinds and their order are this project's own.
use Rattle.std.specs.Prelude.{ℕ, ◌==◌, ◌&&◌, ◌||◌, nat_lt, Bool, if◌then◌else◌, List, [], ◌∷◌, Option, None, Some, map, codes}
use Rattle.script_table.specs.declared.faults.FaultKind.{FaultKind}
use Rattle.script_table.specs.declared.faults.FaultKind.TheVariants.{BadByte, UnknownWord, WordCount, BadNumber, NumberRange, BadName, DuplicateName, UnknownName, WrongKind, NotHere, StrayClose, Unclosed, TooMany, NoThread, ServerRange, BadVersion}

abbrev pub number_of : FaultKind → ℕ
number_of BadByte = 1
number_of UnknownWord = 2
number_of WordCount = 3
number_of BadNumber = 4
number_of NumberRange = 5
number_of BadName = 6
number_of DuplicateName = 7
number_of UnknownName = 8
number_of WrongKind = 9
number_of NotHere = 10
number_of StrayClose = 11
number_of Unclosed = 12
number_of TooMany = 13
number_of NoThread = 14
number_of ServerRange = 15
number_of BadVersion = 16

abbrev pub name_of : FaultKind → List ℕ
name_of BadByte = codes "BadByte"
name_of UnknownWord = codes "UnknownWord"
name_of WordCount = codes "WordCount"
name_of BadNumber = codes "BadNumber"
name_of NumberRange = codes "NumberRange"
name_of BadName = codes "BadName"
name_of DuplicateName = codes "DuplicateName"
name_of UnknownName = codes "UnknownName"
name_of WrongKind = codes "WrongKind"
name_of NotHere = codes "NotHere"
name_of StrayClose = codes "StrayClose"
name_of Unclosed = codes "Unclosed"
name_of TooMany = codes "TooMany"
name_of NoThread = codes "NoThread"
name_of ServerRange = codes "ServerRange"
name_of BadVersion = codes "BadVersion"

-- the kind, where it is so
abbrev pub when : Bool → FaultKind → List FaultKind
when holds kind = if holds then kind ∷ [] else []

abbrev pub lesser : FaultKind → FaultKind → FaultKind
lesser a b = if nat_lt (number_of b) (number_of a) then b else a

abbrev pub lesser_first : Option FaultKind → Option FaultKind → Option FaultKind
lesser_first None rest = rest
lesser_first (Some a) None = Some a
lesser_first (Some a) (Some b) = Some (lesser a b)

-- the least kind
abbrev pub least_kind : List FaultKind → Option FaultKind
least_kind [] = None
least_kind (k ∷ ks) = lesser_first (Some k) (least_kind ks)

pub record Fault : Type 0 where
  pub phase : ℕ
  pub line : ℕ
  pub kind : FaultKind

-- by phase, then line, then kind
abbrev pub is_before : Fault → Fault → Bool
is_before f g = nat_lt f.phase g.phase || (f.phase == g.phase && (nat_lt f.line g.line || (f.line == g.line && nat_lt (number_of f.kind) (number_of g.kind))))

abbrev pub earlier : Fault → Option Fault → Option Fault
earlier f None = Some f
earlier f (Some g) = if is_before g f then Some g else Some f

-- the least fault
abbrev pub least : List Fault → Option Fault
least [] = None
least (f ∷ fs) = earlier f (least fs)

abbrev pub fault : ℕ → ℕ → FaultKind → Fault
fault phase line kind = record { phase = phase; line = line; kind = kind }

-- the faults of a line
abbrev pub faults_at : ℕ → ℕ → List FaultKind → List Fault
faults_at phase line kinds = map (fault phase line) kinds
