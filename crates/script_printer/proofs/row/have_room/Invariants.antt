use Rattle.std.proofs.Common.{◌≡◌, ◌+◌, take}
use Rattle.script_writer.specs.Line.{total_width}
use Rattle.script_printer.proofs.row.have_room.Given as goal

abbrev pub invariant-loop-word : goal.invariant-loop-word
invariant-loop-word l = total_width (take l.word-index l.words) + l.left ≡ 255
