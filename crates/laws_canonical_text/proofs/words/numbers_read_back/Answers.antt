use Rattle.std.proofs.Common.{arith}
use Rattle.laws_canonical_text.proofs.Decimals.{is_number-decimal, value_of-decimal}
use Rattle.laws_canonical_text.proofs.words.numbers_read_back.Goals as goal

pub returns-clause-number : goal.returns-clause-number
returns-clause-number c = is_number-decimal c.args.n (omega arith)

pub returns-clause-value : goal.returns-clause-value
returns-clause-value c = value_of-decimal c.args.n (omega arith)
