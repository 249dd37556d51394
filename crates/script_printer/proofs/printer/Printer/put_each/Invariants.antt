use Rattle.std.proofs.Common.{◌≤◌, drop, length, map, take}
use Rattle.script_lex.specs.Joined.{after_blanks}
use Rattle.script_writer.specs.Line.{AreShort, spelled, total_width}
use Rattle.script_printer.specs.Puts.{Puts}
use Rattle.script_printer.proofs.printer.Printer.put_each.Given as goal

abbrev pub invariant-loop-word : goal.invariant-loop-word
invariant-loop-word g l = record {
  text : Puts g.K.Sink.text g.K.Sink.faults l.initial.self l.self (after_blanks (map spelled (take l.word-index l.words)));
  short : AreShort (drop l.word-index l.words);
  within : length (after_blanks (map spelled (take l.word-index l.words))) ≤ total_width (take l.word-index l.words);
}
