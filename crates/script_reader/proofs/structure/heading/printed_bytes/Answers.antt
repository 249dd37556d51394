use Rattle.std.proofs.Common.{refl}
use Rattle.script_reader.proofs.Headings.{printed_more}
use Rattle.script_reader.proofs.structure.heading.printed_bytes.Goals as goal

pub loop-byte-preserved : goal.loop-byte-preserved
loop-byte-preserved c =
    rw (c.in_ok-push.ensures.items, c.printed.ensures) (printed_more _ _ _ _ _ c.loop-byte-test.true refl c.if-byte-eq35.false c.loop-byte.invariant)
