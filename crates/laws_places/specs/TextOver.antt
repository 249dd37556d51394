-- The text of a run over any type of places.
use Rattle.std.specs.Prelude.{List, ℕ, ◌++◌}
use Rattle.words_script.specs.declared.decl.Script.{Script}
use Rattle.words_trace.specs.Text.{lines}
use Rattle.rules_machine.specs.Bodies.{Bodies}
use Rattle.rules_machine.specs.Runs.{opening, ticks}
use Rattle.rules_machine.specs.Machine.{closing, names_of}

-- the lines of the events of n ticks, and the closing lines
abbrev pub text_over : {Q : Type 0} → Bodies Q → Script → ℕ → List ℕ
text_over bodies script n = let done = ticks bodies n (opening script) in lines (names_of script) done.events ++ closing (names_of script) done.machine
