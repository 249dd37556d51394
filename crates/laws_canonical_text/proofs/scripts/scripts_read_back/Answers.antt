use Rattle.script_table.specs.Table.{patterns}
use Rattle.laws_canonical_text.proofs.Table.{the_table}
use Rattle.laws_canonical_text.proofs.Again.{again}
use Rattle.laws_canonical_text.proofs.scripts.scripts_read_back.Goals as goal

pub returns : goal.returns
returns c = again patterns the_table
