-- The machine of a script, over places in its trees of steps, and the text of a run.
use Rattle.std.specs.Prelude.{List, [], map, option_map, slice_index_or, ℕ, ◌+◌, ◌∷◌, ◌++◌}
use Rattle.words_script.specs.Block.{Block, Nothing}
use Rattle.words_script.specs.declared.decl.Script.{Script}
use Rattle.rules_bodies.specs.Next.{Place, body_start, next}
use Rattle.rules_server.specs.Server.{ServerState}
use Rattle.words_trace.specs.declared.event.Event.TheVariants as event
use Rattle.words_trace.specs.declared.report.BudgetView.{BudgetView}
use Rattle.words_trace.specs.declared.report.Report.{Report}
use Rattle.words_trace.specs.Text.{Entry, line, lines, report_line}
use Rattle.rules_machine.specs.declared.frame.BodyOf.{BodyOf}
use Rattle.rules_machine.specs.declared.frame.BodyOf.TheVariants as body_of
use Rattle.rules_machine.specs.Bodies.{Bodies, NextUnit, Seen}
use Rattle.rules_machine.specs.State.{Machine, Thread}
use Rattle.rules_machine.specs.Declarations.{ThreadDecl, cleanups_of, handlers_of, threads_of}
use Rattle.rules_machine.specs.Runs.{Ran, opening, ticks}

-- ---- the bodies of a script

abbrev pub body_tree : Script → BodyOf → Block
body_tree script (body_of.Thread t) = slice_index_or (map (λ (d : ThreadDecl). d.body) (threads_of script)) t Nothing
body_tree script (body_of.Cleanup u) = slice_index_or (cleanups_of script) u Nothing
body_tree script (body_of.Handler h) = slice_index_or (handlers_of script) h Nothing

abbrev pub next_in : Block → Place → Seen → NextUnit Place
next_in block place seen = let found = next block place seen.register seen.result seen.value in
    record { unit = found.unit; place = found.place; register = found.register }

abbrev pub bodies_of : Script → Bodies Place
bodies_of script = record { start = λ body. body_start; next = λ body. next_in (body_tree script body) }

-- ---- the run

-- the machine after n ticks, with all that happened
abbrev pub run : Script → ℕ → Ran Place
run script n = ticks (bodies_of script) n (opening script)

abbrev pub machine : Script → ℕ → Machine Place
machine script n = (run script n).machine

abbrev pub events : Script → ℕ → List Entry
events script n = (run script n).events

-- ---- the text

abbrev pub names_of : Script → List (List ℕ)
names_of script = map (λ (d : ThreadDecl). d.name) (threads_of script)

-- the budget of a live sporadic or strict thread
abbrev pub budget_of : ServerState → BudgetView
budget_of s = record { high = s.high_total; init = s.params.budget; refilled = s.refilled_total; capacity = s.capacity }

abbrev pub report_of : {P : Type 0} → Thread P → Report
report_of th = record { ticks = th.ticks; budget = option_map budget_of th.server }

-- the closing lines of the threads, from number t on
abbrev pub reports : {P : Type 0} → List (List ℕ) → ℕ → List (Thread P) → List ℕ
reports names t [] = []
reports names t (th ∷ ths) = report_line names t (report_of th) ++ reports names (t + 1) ths

abbrev pub closing : {P : Type 0} → List (List ℕ) → Machine P → List ℕ
closing names m = line names m.now event.End ++ reports names 0 m.threads

-- the text of a run of n ticks
abbrev pub trace : Script → ℕ → List ℕ
trace script n = let done = run script n in lines (names_of script) done.events ++ closing (names_of script) done.machine
