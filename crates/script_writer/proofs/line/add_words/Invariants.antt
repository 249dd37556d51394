use Rattle.std.proofs.Common.{◌≡◌, ◌≤◌, ◌+◌, ◌++◌, drop, length, map}
use Rattle.script_lex.specs.Joined.{after_blanks}
use Rattle.script_writer.specs.Line.{spelled, total_width, AreShort}
use Rattle.script_writer.proofs.line.add_words.Given as goal

abbrev pub invariant-loop-word : goal.invariant-loop-word
invariant-loop-word l = record {
  text : l.line.items ++ after_blanks (map spelled (drop l.word-index l.words)) ≡ l.initial.line.items ++ after_blanks (map spelled l.words);
  room : length l.line.items + total_width (drop l.word-index l.words) ≤ 255;
  short : AreShort (drop l.word-index l.words);
}
