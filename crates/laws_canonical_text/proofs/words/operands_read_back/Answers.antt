use Rattle.laws_canonical_text.proofs.Decimals.{operand_back}
use Rattle.laws_canonical_text.proofs.words.operands_read_back.Goals as goal

pub returns : goal.returns
returns c = operand_back c.args.operand c.requires
