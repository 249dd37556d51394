use Rattle.script_table.specs.Table.{patterns}
use Rattle.laws_canonical_text.proofs.Table.{the_table}
use Rattle.laws_canonical_text.proofs.Accepted.{meaning_kept}
use Rattle.laws_canonical_text.proofs.lines.canonical_texts_read_the_same.Goals as goal

pub returns : goal.returns
returns c = meaning_kept patterns the_table
