use Rattle.std.proofs.Common.{below_more, ◌+◌, ℕ}
use Rattle.kernel_texts.specs.Rows.{thread_fact_of}
use Rattle.kernel_looks.specs.Ahead.{IsToldAt}
use Rattle.kernel_looks.proofs.look_threads.told_ahead.Goals as goal

pub loop-k-preserved : goal.loop-k-preserved
loop-k-preserved c =
    let d = c.args.desk.now in
    let m = c.args.parts.now.machine in
    let same = c.args.stretch.now.same in
    let here = c.is_told_ahead.ensures c.if-not-is_told_ahead.false in
    below_more (λ (i : ℕ). IsToldAt (d.at + (same + i)) d (thread_fact_of c.args.row m (c.args.from + i))) c.loop-k.k c.loop-k.invariant (rw (c.from-in-loop-k.ensures, c.tid.ensures) at here)
