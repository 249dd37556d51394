use Rattle.std.proofs.Common.{◌-◌, ◌≤◌, take}
use Rattle.std.specs.List.{prefix_len}
use Rattle.script_lex.specs.Words.{is_blank}
use Rattle.script_lex.proofs.words.blanks.Given as goal

abbrev pub invariant-loop-at : goal.invariant-loop-at
invariant-loop-at l = l.at ≤ prefix_len is_blank (take l.len l.ahead)

abbrev pub decreases-loop-at : goal.decreases-loop-at
decreases-loop-at l = l.len - l.at
