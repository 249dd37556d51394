-- Ranges and limits: the faults of phase 3. The parameters of a server are those of IEEE 1003.1-2017, XSH 2.8.4; the limits are this project's own.
use Rattle.std.specs.Prelude.{ℕ, ◌+◌, ◌-◌, ◌==◌, ◌&&◌, ◌||◌, nat_lt, nat_le, min, not, Bool, true, false, List, [], ◌∷◌, ◌++◌, Option, None}
use Rattle.std.specs.List.{slice_index_or}
use Rattle.script_table.specs.declared.faults.FaultKind.{FaultKind}
use Rattle.script_table.specs.declared.faults.FaultKind.TheVariants.{NumberRange, TooMany, NoThread, ServerRange}
use Rattle.script_table.specs.declared.form.Form.{Form}
use Rattle.script_table.specs.declared.form.Form.TheVariants as form
use Rattle.script_table.specs.declared.form.ObjectForm.{ObjectForm}
use Rattle.script_table.specs.declared.form.ObjectForm.TheVariants as object
use Rattle.script_table.specs.declared.form.BodyForm.TheVariants as body
use Rattle.script_table.specs.declared.form.CallForm.TheVariants as call
use Rattle.script_table.specs.declared.form.ThreadCall.TheVariants as thread
use Rattle.words_script.specs.declared.name_kind.NameKind.{NameKind}
use Rattle.words_script.specs.declared.name_kind.NameKind.TheVariants as kind
use Rattle.script_table.specs.declared.pattern.Closer.{Closer}
use Rattle.script_table.specs.declared.pattern.Closer.TheVariants as closer
use Rattle.script_table.specs.Faults.{Fault, faults_at, when}
use Rattle.script_table.specs.Words.{value_of, is_register}
use Rattle.script_table.specs.Patterns.{Spot, Number, Operand, greatest}
use Rattle.script_table.specs.LineFaults.{place_faults, unless}
use Rattle.script_table.specs.Structure.{Said, body_kind, closer_of, closed_by}
use Rattle.script_table.specs.Names.{Counts, no_counts, counted}

-- the value of digits lies in a range
abbrev pub is_within : ℕ → ℕ → List ℕ → Bool
is_within low high word = nat_le low (value_of word) && nat_le (value_of word) high

abbrev pub range_fault : Spot → List ℕ → Option FaultKind
range_fault (Number low high) word = unless (is_within low high word) NumberRange
range_fault Operand word = unless (is_register word || is_within 0 greatest word) NumberRange
range_fault other word = None

-- the word at a place
abbrev pub word : ℕ → List (List ℕ) → List ℕ
word k words = slice_index_or words k []

-- the number at a place, where all numbers past the range are taken as one
abbrev pub capped_number_at : ℕ → List (List ℕ) → ℕ
capped_number_at k words = min (greatest + 1) (value_of (word k words))

-- whether a line sets the parameters of a server, as its words 3 to 7: high, low, period, budget, max
abbrev pub sets_server : Form → Bool
sets_server (form.Body body.SporadicAt) = true
sets_server (form.Body body.SporadicDormant) = true
sets_server (form.Body body.StrictAt) = true
sets_server (form.Body body.StrictDormant) = true
sets_server (form.Call (call.Thread thread.SetschedSporadic)) = true
sets_server (form.Call (call.Thread thread.SetschedStrict)) = true
sets_server other = false

-- the budget is at least 1 and at most the period, 1 to 16 replenishments may be pending, low is below high
abbrev pub is_server : List (List ℕ) → Bool
is_server words =
    (nat_le 1 (capped_number_at 6 words) && nat_le (capped_number_at 6 words) (capped_number_at 5 words)) &&
    ((nat_le 1 (capped_number_at 7 words) && nat_le (capped_number_at 7 words) 16) && nat_lt (capped_number_at 4 words) (capped_number_at 3 words))

abbrev pub server_faults : Form → List (List ℕ) → List FaultKind
server_faults form words = when (sets_server form && not (is_server words)) ServerRange

-- what an object is
abbrev pub object_kind : ObjectForm → NameKind
object_kind object.Cond = kind.Cond
object_kind object.Sem = kind.Sem
object_kind object.Queue = kind.Queue
object_kind object.QueueNonblock = kind.Queue
object_kind object.Timer = kind.Timer
object_kind object.TimerReal = kind.Timer
object_kind mutex = kind.Mutex

-- how many threads, mutexes, conditions and semaphores there may be of each; how many there are so far, how deep the blocks are, and how many of those are push blocks
pub record Tally : Type 0 where
  pub most : ℕ
  pub counts : Counts
  pub quanta : ℕ
  pub steps : ℕ
  pub depth : ℕ
  pub pushes : ℕ

abbrev pub no_tally : ℕ → Tally
no_tally most = record { most = most; counts = no_counts; quanta = 0; steps = 0; depth = 0; pushes = 0 }

abbrev pub entered : Tally → Closer → Tally
entered t closer.End = record t { steps = t.steps + 1; depth = t.depth + 1 }
entered t closer.Pop = record t { steps = t.steps + 1; depth = t.depth + 1; pushes = t.pushes + 1 }

abbrev pub left : Tally → Closer → Tally
left t closer.End = record t { depth = t.depth - 1 }
left t closer.Pop = record t { depth = t.depth - 1; pushes = t.pushes - 1 }

-- after one more line
abbrev pub tallied : Tally → Form → Tally
tallied t form.Quantum = record t { quanta = t.quanta + 1 }
tallied t (form.Object f) = record t { counts = counted t.counts (object_kind f) }
tallied t (form.Action f) = t
tallied t (form.Body f) = record t { counts = counted t.counts (body_kind f); depth = t.depth + 1 }
tallied t (form.Step f) = record t { steps = t.steps + 1 }
tallied t (form.Call f) = record t { steps = t.steps + 1 }
tallied t (form.Block f) = entered t (closer_of f)
tallied t (form.Close f) = left t (closed_by f)

-- there are too many of a kind; handlers and cleanups share one limit
abbrev pub is_over : ℕ → Counts → NameKind → Bool
is_over most c kind.Thread = nat_lt most c.threads
is_over most c kind.Mutex = nat_lt most c.mutexes
is_over most c kind.Cond = nat_lt most c.conds
is_over most c kind.Sem = nat_lt most c.sems
is_over most c kind.Queue = nat_lt 16 c.queues
is_over most c kind.Timer = nat_lt 32 c.timers
is_over most c kind.Handler = nat_lt 64 (c.handlers + c.cleanups)
is_over most c kind.Cleanup = nat_lt 64 (c.handlers + c.cleanups)

-- with this line there are too many
abbrev pub is_too_many : Tally → Form → Bool
is_too_many t form.Quantum = nat_lt 1 t.quanta
is_too_many t (form.Object f) = is_over t.most t.counts (object_kind f)
is_too_many t (form.Action f) = false
is_too_many t (form.Body f) = is_over t.most t.counts (body_kind f)
is_too_many t (form.Step f) = nat_lt 65536 t.steps
is_too_many t (form.Call f) = nat_lt 65536 t.steps
is_too_many t (form.Block f) = nat_lt 65536 t.steps || (nat_lt 16 t.depth || nat_lt 8 t.pushes)
is_too_many t (form.Close f) = false

abbrev pub range_faults : Tally → Said → List FaultKind
range_faults t s =
    place_faults range_fault s.row.places s.words ++
    (server_faults s.row.form s.words ++ when (is_too_many t s.row.form) TooMany)

-- the faults of phase 3; n is the number of the line behind the last
abbrev pub phase_three : ℕ → Tally → List Said → List Fault
phase_three n t [] = faults_at 3 n (when (t.counts.threads == 0) NoThread)
phase_three n t (s ∷ ss) = faults_at 3 s.line (range_faults (tallied t s.row.form) s) ++ phase_three n (tallied t s.row.form) ss
