use Rattle.script_table.specs.Table.{patterns}
use Rattle.laws_canonical_text.proofs.Table.{the_table}
use Rattle.laws_canonical_text.proofs.Again.{says_again}
use Rattle.laws_canonical_text.proofs.scripts.scripts_keep_their_statements.Goals as goal

pub returns : goal.returns
returns c = says_again patterns the_table
