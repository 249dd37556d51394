use Rattle.std.proofs.Common.{ap}
use Rattle.script_table.specs.Patterns.{spot_of}
use Rattle.script_table.proofs.Alone.{alone_right}
use Rattle.script_table.proofs.line_faults.is_right_alone.Goals as goal

pub returns-in-Number : goal.returns-in-Number
returns-in-Number c right = alone_right _ c.in-Number.low c.in-Number.high _ _ (ap spot_of c.in-Number.is) c.from_first.ensures (c.is_short_within.ensures right)
