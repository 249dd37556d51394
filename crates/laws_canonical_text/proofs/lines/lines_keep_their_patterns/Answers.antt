use Rattle.script_table.specs.Table.{patterns}
use Rattle.laws_canonical_text.proofs.Table.{the_table}
use Rattle.laws_canonical_text.proofs.LineLaws.{keeps_pattern}
use Rattle.laws_canonical_text.proofs.lines.lines_keep_their_patterns.Goals as goal

pub returns : goal.returns
returns c = λ version row line sound. keeps_pattern (patterns version) (the_table version) row line sound
