use Rattle.std.proofs.Common.{◌≤◌, ◌+◌, drop, map, take}
use Rattle.parts_bytes.specs.Placed.{Placed}
use Rattle.script_lex.specs.Joined.{after_blanks}
use Rattle.script_writer.specs.Line.{AreShort, spelled, total_width}
use Rattle.script_printer.proofs.row.place_words.Given as goal

abbrev pub invariant-loop-word : goal.invariant-loop-word
invariant-loop-word l = record {
  placed : Placed l.initial.row l.row l.at (after_blanks (map spelled (take l.word-index l.words))) l.end;
  short : AreShort (drop l.word-index l.words);
  room : l.end + total_width (drop l.word-index l.words) ≤ l.at + total_width l.words;
}
