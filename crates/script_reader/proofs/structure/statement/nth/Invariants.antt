use Rattle.std.proofs.Common.{◌≡◌, length}
use Rattle.script_table.specs.Ranges.{word}
use Rattle.script_reader.proofs.structure.statement.nth.Given as goal

abbrev pub invariant-loop-found : goal.invariant-loop-found
invariant-loop-found l = word l.left l.words.words ≡ word l.k l.fn.words.words

abbrev pub decreases-loop-found : goal.decreases-loop-found
decreases-loop-found l = length l.words.words
