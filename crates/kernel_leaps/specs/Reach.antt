-- How far a leap of a machine goes that may go so many ticks, to the horizon and to the nearest due tick. It is one tick at least.
use Rattle.std.specs.Prelude.{ℕ, Option, max, min}
use Rattle.rules_bodies.specs.declared.cursor.Cursor.{Cursor}
use Rattle.rules_machine.specs.Bodies.{Bodies}
use Rattle.rules_machine.specs.State.{Machine}
use Rattle.rules_leaps.specs.Leap.{head_lasts}

-- what the dispatch gave the processor to
abbrev pub run_length : Bodies Cursor → ℕ → Option ℕ → Machine Cursor → ℕ
run_length bodies near to m = max 1 (min near (head_lasts bodies near to m))
