use Rattle.kernel_settling.proofs.SweepNothing.{nothing_taken}
use Rattle.calls_items.proofs.Swept.{nothing_swept}
use Rattle.calls_items.proofs.sweeps.sweep.Goals as goal

pub returns-then-none_pending-clause-does : goal.returns-then-none_pending-clause-does
returns-then-none_pending-clause-does g c =
    let none = c.none_pending.ensures.0 c.if-none_pending.true in
    nothing_swept c.args.p.now c.args.out.now (λ t below. nothing_taken c.args.p.now.machine t none) c.requires.quiet c.requires.stood
