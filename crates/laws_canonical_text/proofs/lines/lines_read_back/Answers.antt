use Rattle.laws_canonical_text.proofs.LineLaws.{read_back}
use Rattle.laws_canonical_text.proofs.lines.lines_read_back.Goals as goal

pub returns : goal.returns
returns c = read_back
