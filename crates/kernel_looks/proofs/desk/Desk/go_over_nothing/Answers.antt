use Rattle.std.proofs.Common.{refl, ◌+◌}
use Rattle.kernel_looks.proofs.Looking.{went_same, went_seen}
use Rattle.kernel_looks.proofs.desk.Desk.go_over_nothing.Goals as goal

pub returns-then-was_empty-clause-went : goal.returns-then-was_empty-clause-went
returns-then-was_empty-clause-went c =
    let d = c.args.self.now in
    let e = c.if-was_empty.true in
    went_seen d (record d { at = d.at + 1 }) _ _ refl (went_same d (record d { at = d.at + 1 }) _ (c.was_empty.ensures.place e) (c.was_empty.ensures.subject e) (c.was_empty.ensures.empty e) refl)
