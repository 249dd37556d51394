use Rattle.std.proofs.Common.{arith}
use Rattle.std.proofs.lemmas.Fmt.{length-decimal-le}
use Rattle.parts_tracer.proofs.hundred.place_shared.Goals as goal

pub place_word-requires-clause-fits : goal.place_word-requires-clause-fits
place_word-requires-clause-fits c =
    rw (c.as_bytes.ensures.value, c.format.ensures.text)
    (omega (arith, length-decimal-le 16 c.args.n (omega arith) c.requires c.ranges.n.fits))
