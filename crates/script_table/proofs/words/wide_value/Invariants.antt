use Rattle.std.proofs.Common.{◌≡◌, ◌+◌, take, min}
use Rattle.script_table.specs.Words.{value_of}
use Rattle.script_table.proofs.words.wide_value.Given as goal

abbrev pub invariant-loop-c : goal.invariant-loop-c
invariant-loop-c l = l.value ≡ min (l.high + 1) (value_of (take l.c-index l.word))
