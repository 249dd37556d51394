use Rattle.std.proofs.Common.{◌≡◌, ◌+◌, length}
use Rattle.script_table.specs.Patterns.{rows_of}
use Rattle.script_reader.specs.ByLetter.{ServeFrom}
use Rattle.script_reader.proofs.structure.by_letter.ByLetter.new.Given as goal

abbrev pub invariant-loop-byte : goal.invariant-loop-byte
invariant-loop-byte l = record {
  serve : ServeFrom (rows_of l.table) 97 l.narrower.items;
  place : l.byte ≡ 97 + length l.narrower.items;
}
