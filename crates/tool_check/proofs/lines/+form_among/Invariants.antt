use Rattle.std.proofs.Common.{length}
use Rattle.tool_check.proofs.lines.+form_among.Given as goal

abbrev pub decreases-form_among : goal.decreases-form_among
decreases-form_among l = length l.forms.now
