-- Names: what is declared, and the faults of phase 2. This project's own.
use Rattle.std.specs.Prelude.{ℕ, ◌+◌, nat_lt, if◌then◌else◌, List, [], ◌∷◌, ◌++◌, Option, None, Some, is_some, find}
use Rattle.std.specs.Str.{bytes_eq}
use Rattle.script_table.specs.declared.faults.FaultKind.{FaultKind}
use Rattle.script_table.specs.declared.faults.FaultKind.TheVariants.{DuplicateName, UnknownName, WrongKind}
use Rattle.words_script.specs.declared.name_kind.NameKind.{NameKind}
use Rattle.words_script.specs.declared.name_kind.NameKind.TheVariants as kind
use Rattle.script_table.specs.Faults.{Fault, faults_at}
use Rattle.words_script.specs.Kinds.{same_kind}
use Rattle.script_table.specs.Patterns.{Spot, Declares, Uses, Acts}
use Rattle.script_table.specs.LineFaults.{place_faults}
use Rattle.script_table.specs.Structure.{Said}

-- how many there are of each kind
pub record Counts : Type 0 where
  pub threads : ℕ
  pub mutexes : ℕ
  pub conds : ℕ
  pub sems : ℕ
  pub queues : ℕ
  pub timers : ℕ
  pub handlers : ℕ
  pub cleanups : ℕ

abbrev pub no_counts : Counts
no_counts = record { threads = 0; mutexes = 0; conds = 0; sems = 0; queues = 0; timers = 0; handlers = 0; cleanups = 0 }

-- with one more of a kind
abbrev pub counted : Counts → NameKind → Counts
counted c kind.Thread = record c { threads = c.threads + 1 }
counted c kind.Mutex = record c { mutexes = c.mutexes + 1 }
counted c kind.Cond = record c { conds = c.conds + 1 }
counted c kind.Sem = record c { sems = c.sems + 1 }
counted c kind.Queue = record c { queues = c.queues + 1 }
counted c kind.Timer = record c { timers = c.timers + 1 }
counted c kind.Handler = record c { handlers = c.handlers + 1 }
counted c kind.Cleanup = record c { cleanups = c.cleanups + 1 }

abbrev pub count_of : Counts → NameKind → ℕ
count_of c kind.Thread = c.threads
count_of c kind.Mutex = c.mutexes
count_of c kind.Cond = c.conds
count_of c kind.Sem = c.sems
count_of c kind.Queue = c.queues
count_of c kind.Timer = c.timers
count_of c kind.Handler = c.handlers
count_of c kind.Cleanup = c.cleanups

-- a name by its first declaration, with its number among those of its kind
pub record Entry : Type 0 where
  pub name : List ℕ
  pub kind : NameKind
  pub line : ℕ
  pub number : ℕ

abbrev pub counts_from : Counts → List Entry → Counts
counts_from c [] = c
counts_from c (e ∷ es) = counts_from (counted c e.kind) es

-- the declaration of a name
abbrev pub entry_of : List Entry → List ℕ → Option Entry
entry_of entries name = find (λ e. bytes_eq name e.name) entries

-- with a name of a line, where it is new; it is numbered in order of declaration
abbrev pub with_name : List Entry → ℕ → NameKind → List ℕ → List Entry
with_name entries n kind name =
    if is_some (entry_of entries name) then entries
    else entries ++ record { name = name; kind = kind; line = n; number = count_of (counts_from no_counts entries) kind } ∷ []

-- all names in one space, and the signals that have an action
pub record Declared : Type 0 where
  pub names : List Entry
  pub actions : List Entry

abbrev pub nothing_declared : Declared
nothing_declared = record { names = []; actions = [] }

-- with what a word declares
abbrev pub with_declaration : Declared → ℕ → Spot → List ℕ → Declared
with_declaration d n (Declares kind) word = record d { names = with_name d.names n kind word }
with_declaration d n Acts word = record d { actions = with_name d.actions n kind.Handler word }
with_declaration d n other word = d

-- with what a line declares
abbrev pub declared_at : Declared → ℕ → List Spot → List (List ℕ) → Declared
declared_at d n [] words = d
declared_at d n (spot ∷ spots) [] = d
declared_at d n (spot ∷ spots) (word ∷ words) = declared_at (with_declaration d n spot word) n spots words

-- with all that lines declare
abbrev pub declared_from : Declared → List Said → Declared
declared_from d [] = d
declared_from d (s ∷ ss) = declared_from (declared_at d s.line s.row.places s.words) ss

abbrev pub declared : List Said → Declared
declared ss = declared_from nothing_declared ss

-- a name that is declared on a line, by its first declaration
abbrev pub duplicate : ℕ → Option Entry → Option FaultKind
duplicate n None = None
duplicate n (Some e) = if nat_lt e.line n then Some DuplicateName else None

-- a name that is used, by its first declaration
abbrev pub used : NameKind → Option Entry → Option FaultKind
used kind None = Some UnknownName
used kind (Some e) = if same_kind e.kind kind then None else Some WrongKind

abbrev pub name_fault : Declared → ℕ → Spot → List ℕ → Option FaultKind
name_fault d n (Declares kind) word = duplicate n (entry_of d.names word)
name_fault d n (Uses kind) word = used kind (entry_of d.names word)
name_fault d n Acts word = duplicate n (entry_of d.actions word)
name_fault d n other word = None

abbrev pub name_faults : Declared → Said → List FaultKind
name_faults d s = place_faults (name_fault d s.line) s.row.places s.words

-- the faults of phase 2
abbrev pub phase_two : Declared → List Said → List Fault
phase_two d [] = []
phase_two d (s ∷ ss) = faults_at 2 s.line (name_faults d s) ++ phase_two d ss
