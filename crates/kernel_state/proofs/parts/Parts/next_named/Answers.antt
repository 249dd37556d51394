use Rattle.std.proofs.Common.{subst}
use Rattle.std.specs.Prelude.{IfSome, MatchOption, length, ◌<◌}
use Rattle.kernel_state.specs.Kernel.{Kernel}
use Rattle.kernel_state.specs.Standing.{IsNext, StandFrom}
use Rattle.kernel_state.proofs.StandOn.{next_is, next_known}
use Rattle.kernel_state.proofs.parts.Parts.next_named.Goals as goal

pub returns-clause-next : goal.returns-clause-next
returns-clause-next c =
    let s = c.self.inside in
    subst (λ (k : Kernel). MatchOption c.first_from.result (StandFrom k.machine c.args.from) (λ t. IsNext k.machine c.args.from t)) c.self.view_is
    (next_is s.named.bits c.args.from s.table s.ready.lists c.first_from.result c.self.invariant.stand c.first_from.ensures)

pub returns-clause-known : goal.returns-clause-known
returns-clause-known c =
    let s = c.self.inside in
    subst (λ (k : Kernel). IfSome c.first_from.result (λ t. t < length k.names)) c.self.view_is
    (next_known s.named.bits c.args.from _ s.table s.ready.lists c.first_from.result c.self.invariant.tied.named c.self.invariant.stand c.first_from.ensures)
