-- What is read of lines without a fault of phase 1.
use Rattle.std.specs.Prelude.{◌≡◌, ◌+◌, List, [], length, Some, None}
use Rattle.script_table.specs.Faults.{least}
use Rattle.script_table.specs.Patterns.{Row}
use Rattle.script_table.specs.Structure.{phase_one}
use Rattle.script_table.specs.Heading.{Beginning}
use Rattle.script_table.specs.Read.{said_in}
use Rattle.script_reader.specs.declared.structure.lines.Reading.{Reading}

pub record IsReading (rows : List Row) (b : Beginning) (r : Reading) : Type 0 where
  pub faultless : least (phase_one rows b.number (Some []) b.lines) ≡ None
  pub said : r.statements.items ≡ said_in rows b
  pub last : r.last ≡ b.number + length b.lines
