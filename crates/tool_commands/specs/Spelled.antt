-- How the numbers and the lines of a run are. This project's own.
use Rattle.std.specs.Prelude.{◌≡◌, ◌≤◌, ◌<◌, ◌^◌, ℕ, Some, length, map}
use Rattle.script_lex.specs.Lines.{lines_of}
use Rattle.words_script.specs.declared.decl.Script.{Script}
use Rattle.rules_machine.specs.Declarations.{threads_of}
use Rattle.rules_machine.specs.Machine.{bodies_of, machine, trace}
use Rattle.rules_machine.specs.Runs.{opening}
use Rattle.rules_machine.specs.Throughout.{after_items}
use Rattle.tool_check.specs.Lines.{reading}
use Rattle.laws_audit.specs.Traces.{trace_readings}
use Rattle.laws_numbers.specs.Numbers.{NumbersAreSmall}

-- No number of a run passes 3·10^18, or the lower limit of its kind, at any instant that it can come to, nor between the due items of one; and
-- its serials stay below 2^63.
pub record RunHasSmallNumbers (script : Script) : Type 0 where
  pub at_instants : (n : ℕ) → n ≤ 10 ^ 18 → NumbersAreSmall (length (threads_of script)) n (machine script n)
  pub between_items : (n k : ℕ) → n ≤ 10 ^ 18 → NumbersAreSmall (length (threads_of script)) n (after_items (bodies_of script) (opening script) n k)
  pub serial : (n : ℕ) → n ≤ 10 ^ 18 → (machine script n).next_serial < 2 ^ 63

-- each line of a trace has one reading, and it is what the run says
abbrev pub LinesHaveOneReading : Script → Type 0
LinesHaveOneReading script = (n : ℕ) → n ≤ 10 ^ 18 → map reading (lines_of (trace script n)) ≡ map Some (trace_readings script n)
