-- What the lines of a run's trace say, and the servers that an audit of it may be about. This project's own.
use Rattle.std.specs.Prelude.{ℕ, ◌+◌, ◌==◌, ◌<◌, ◌≤◌, ◌≡◌, List, [], ◌∷◌, ◌++◌, length, map}
use Rattle.std.specs.Str.{bytes_eq}
use Rattle.words_numbers.specs.Parameters.{Parameters}
use Rattle.words_script.specs.declared.decl.Script.{Script}
use Rattle.words_script.specs.declared.policy.Policy.TheVariants as policy
use Rattle.rules_bodies.specs.Next.{Place}
use Rattle.words_trace.specs.declared.event.Event.TheVariants as event
use Rattle.words_trace.specs.Text.{Entry, name_at}
use Rattle.tool_check.specs.Laws.{HasName, IsBudgetSpelled, IsSpelled, said, said_of_report}
use Rattle.tool_check.specs.Words.{greatest}
use Rattle.tool_check.specs.Lines.{Reading}
use Rattle.rules_machine.specs.State.{Thread}
use Rattle.rules_machine.specs.Threads.{thread_at}
use Rattle.rules_machine.specs.Runs.{opening}
use Rattle.rules_machine.specs.Machine.{events, machine, names_of, report_of}
use Rattle.tool_audit.specs.declared.server.NamedServer.{NamedServer}

-- the lines of events
abbrev pub event_readings : List (List ℕ) → List Entry → List Reading
event_readings names es = map (λ (e : Entry). said names e.time e.event) es

-- the closing lines of the threads from number t on
abbrev pub report_readings : {P : Type 0} → List (List ℕ) → ℕ → List (Thread P) → List Reading
report_readings names t [] = []
report_readings names t (th ∷ ths) = said_of_report names t (report_of th) ∷ report_readings names (t + 1) ths

-- all lines of a trace: those of the events, that of the end, and the closing lines
abbrev pub trace_readings : Script → ℕ → List Reading
trace_readings script n =
    event_readings (names_of script) (events script n) ++ said (names_of script) (machine script n).now event.End ∷ report_readings (names_of script) 0 (machine script n).threads

-- names tell threads apart
pub record NamesApart (names : List (List ℕ)) : Type 0 where
  pub apart : (u t : ℕ) → t < length names → bytes_eq (name_at names u) (name_at names t) ≡ (u == t)

-- the server is that of a sporadic thread of the script, with its period, budget and greatest number of pending replenishments
pub record IsServerOf (script : Script) (s : NamedServer) : Type 0 where
  pub thread : ℕ
  pub within : thread < length (names_of script)
  pub named : s.name ≡ name_at (names_of script) thread
  pub params : Parameters
  pub rule : (thread_at {P = Place} (opening script) thread).policy ≡ policy.Sporadic params
  pub period : params.period ≡ s.limits.period
  pub budget : params.budget ≡ s.limits.budget
  pub max : params.max ≡ s.limits.max
  -- as the head of an audit has it
  pub some : 1 ≤ s.limits.budget
  pub many : 1 ≤ s.limits.max

-- the lines of these events are spelled as a trace is: their threads have names, and no number is above the greatest
abbrev pub AllSpelled : List (List ℕ) → List Entry → Type 0
AllSpelled names [] = Unit {0}
AllSpelled names (e ∷ es) = (e.time ≤ greatest) × IsSpelled names e.event × AllSpelled names es

abbrev pub ReportsSpelled : {P : Type 0} → List (List ℕ) → ℕ → List (Thread P) → Type 0
ReportsSpelled names t [] = Unit {0}
ReportsSpelled names t (th ∷ ths) = HasName names t × (th.ticks ≤ greatest) × IsBudgetSpelled (report_of th).budget × ReportsSpelled names (t + 1) ths

pub record TraceIsSpelled (script : Script) (n : ℕ) : Type 0 where
  pub events : AllSpelled (names_of script) (events script n)
  pub early : (machine script n).now ≤ greatest
  pub reports : ReportsSpelled (names_of script) 0 (machine script n).threads

-- each of these servers is one of the script
abbrev pub EachServerOf : Script → List NamedServer → Type 0
EachServerOf script [] = Unit {0}
EachServerOf script (s ∷ servers) = IsServerOf script s × EachServerOf script servers
