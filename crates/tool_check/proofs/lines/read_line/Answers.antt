use Rattle.std.proofs.Common.{◌∙◌}
use Rattle.tool_check.proofs.Printed.{printed_is_read}
use Rattle.tool_check.proofs.SmallLines.{small_where_read}
use Rattle.tool_check.proofs.lines.read_line.Goals as goal

pub returns-clause-printed : goal.returns-clause-printed
returns-clause-printed c = λ r h. c.read.ensures ∙ printed_is_read _ r h

pub returns-clause-small : goal.returns-clause-small
returns-clause-small c = small_where_read c.args.line.now c.read.result c.read.ensures
