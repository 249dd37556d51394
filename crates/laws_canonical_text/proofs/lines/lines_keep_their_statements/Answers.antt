use Rattle.script_table.specs.Table.{patterns}
use Rattle.laws_canonical_text.proofs.Table.{the_table}
use Rattle.laws_canonical_text.proofs.Text.{statements_kept}
use Rattle.laws_canonical_text.proofs.lines.lines_keep_their_statements.Goals as goal

pub returns : goal.returns
returns c = λ b clean. statements_kept (patterns b.version) (the_table b.version) b clean
