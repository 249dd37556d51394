use Rattle.std.proofs.Common.{ap, arith}
use Rattle.kernel_leaps.proofs.Passing.{few_ran}
use Rattle.kernel_leaps.proofs.units.run_thread.Goals as goal

pub overflow_add-ran : goal.overflow_add-ran
overflow_add-ran g c =
    let few = few_ran _ _ _ _ _ _ _ _ c.run-ran.ensures.ran in
    let early = c.requires.early in
    omega (arith, few, early)

pub leap-requires : goal.leap-requires
leap-requires g c =
    let few = few_ran _ _ _ _ _ _ _ _ c.run-ran.ensures.ran in
    let early = c.requires.early in
    let now = ap (λ k. k.machine.now) c.run-ran.ensures.state in
    record { early = omega (arith, few, early, now) }

pub returns-clause-few : goal.returns-clause-few
returns-clause-few g c = few_ran _ _ _ _ _ _ _ _ c.run-ran.ensures.ran
