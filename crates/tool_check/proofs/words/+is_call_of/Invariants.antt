use Rattle.std.proofs.Common.{length}
use Rattle.tool_check.proofs.words.+is_call_of.Given as goal

abbrev pub decreases-is_call_of : goal.decreases-is_call_of
decreases-is_call_of l = length l.calls.now
