use Rattle.std.proofs.Common.{◌+◌, arith, subst}
use Rattle.kernel_state.specs.Kernel.{Kernel}
use Rattle.kernel_state.specs.Standing.{StandFrom}
use Rattle.kernel_state.proofs.parts.Parts.is_named_alone.Goals as goal

pub returns : goal.returns
returns c = λ alone.
    let s = c.self.inside in
    subst (λ (k : Kernel). StandFrom k.machine (c.args.t + 1)) c.self.view_is
    (λ u low. c.self.invariant.stand.others u (c.is_alone.ensures.0 alone u (λ same. omega (arith, low, same))))
