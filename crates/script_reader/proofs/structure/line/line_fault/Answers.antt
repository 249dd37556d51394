use Rattle.std.proofs.Common.{sym, ◌∙◌}
use Rattle.std.specs.Prelude.{Some}
use Rattle.script_reader.proofs.LineReads.{clean_line}
use Rattle.script_reader.proofs.structure.line.line_fault.Goals as goal

pub returns : goal.returns
returns c = clean_line _ (Some c.args.blocks.now) c.args.line.now.bytes.now _ _ _ _ (sym c.has_bad_byte.ensures ∙ c.if-has_bad_byte.false) c.requires.row c.words_fault.ensures c.here_fault.ensures c.lesser_first.ensures
