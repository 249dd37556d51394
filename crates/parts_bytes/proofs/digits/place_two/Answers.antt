use Rattle.std.proofs.Common.{arith}
use Rattle.std.proofs.lemmas.Fmt.{decimal_digit}
use Rattle.itoa.proofs.Decimal.{decimal_two}
use Rattle.parts_bytes.proofs.digits.place_two.Goals as goal

pub returns-then-n-lt10-clause-placed : goal.returns-then-n-lt10-clause-placed
returns-then-n-lt10-clause-placed c = rw (decimal_digit c.args.n c.if-n-lt10.true) c.place_byte.ensures

pub returns-else-n-lt10-clause-placed : goal.returns-else-n-lt10-clause-placed
returns-else-n-lt10-clause-placed c =
    rw (decimal_two c.args.n (omega (arith, c.if-n-lt10.false)) c.requires.two) c.place_pair.ensures
