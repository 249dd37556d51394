use Rattle.std.proofs.Common.{arith}
use Rattle.kernel_leaps.proofs.StepsLeft.{few_steps}
use Rattle.kernel_leaps.proofs.kernel.Kernel.detail.Goals as goal

pub returns-then-write_detail-clause-steps : goal.returns-then-write_detail-clause-steps
returns-then-write_detail-clause-steps g c =
    let few = few_steps c.args.script.now c.requires.runnable c.requires.well_formed c.args.horizon in
    let steps = c.write_detail.ensures.steps in
    omega (arith, few, steps)

pub returns-clause-steps : goal.returns-clause-steps
returns-clause-steps g c =
    let few = few_steps c.args.script.now c.requires.runnable c.requires.well_formed c.args.horizon in
    let steps = c.write_detail.ensures.steps in
    omega (arith, few, steps)

pub returns-then-write_detail-clause-written : goal.returns-then-write_detail-clause-written
returns-then-write_detail-clause-written g c = c.write_detail.ensures.told.part
