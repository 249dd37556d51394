use Rattle.std.proofs.Common.{◌≡◌, arith, below_more, length, ℕ}
use Rattle.kernel_texts.specs.Rows.{thread_fact_of}
use Rattle.kernel_looks.specs.Nothing.{TellsNothing}
use Rattle.kernel_looks.proofs.nothing.are_bare_inside.Goals as goal

pub loop-number-init : goal.loop-number-init
loop-number-init c row inner t low = absurd (omega (arith, low))

pub loop-number-preserved : goal.loop-number-preserved
loop-number-preserved c row inner =
    below_more (λ (t : ℕ). TellsNothing (thread_fact_of row c.args.parts.now.machine t)) c.loop-number.number (c.loop-number.invariant row inner)
    (rw c.tid.ensures at (c.is_bare_inside.ensures c.if-not-is_bare_inside.false row inner))

pub returns : goal.returns
returns c e =
    let all : c.loop-number.number ≡ length c.args.parts.now.machine.threads = omega (arith, c.count-number-end.ensures.threads) in
    rw all at c.loop-number.invariant
