use Rattle.std.proofs.Common.{refl}
use Rattle.kernel_looks.proofs.Runs.{known_none, known_quiet}
use Rattle.kernel_looks.proofs.desk.Desk.go_over_empty.Goals as goal

pub returns-clause-went : goal.returns-clause-went
returns-clause-went c =
    let found = c.quiet_ahead-empty.ensures in
    known_quiet c.args.self.now _ c.quiet_ahead-empty.result found.quiet found.told found.subjects refl

pub returns-then-self-count-clause-went : goal.returns-then-self-count-clause-went
returns-then-self-count-clause-went c = known_none _
