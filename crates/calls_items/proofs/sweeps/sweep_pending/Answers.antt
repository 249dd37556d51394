use Rattle.calls_items.proofs.Swept.{nothing_swept}
use Rattle.calls_items.proofs.sweeps.sweep_pending.Goals as goal

pub returns-then-no_thread_takes-clause-does : goal.returns-then-no_thread_takes-clause-does
returns-then-no_thread_takes-clause-does g c = nothing_swept c.args.p.now c.args.out.now (c.no_thread_takes.ensures c.if-no_thread_takes.true) c.requires.quiet c.requires.stood
