use Rattle.script_table.specs.Table.{patterns}
use Rattle.laws_canonical_text.proofs.Table.{the_table}
use Rattle.laws_canonical_text.proofs.Text.{text_kept}
use Rattle.laws_canonical_text.proofs.lines.accepted_texts_stay_accepted.Goals as goal

pub returns : goal.returns
returns c = text_kept patterns the_table
