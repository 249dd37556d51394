use Rattle.std.proofs.Common.{◌≡◌, ◌-◌, ◌∙◌, sym, arith}
use Rattle.parts_tracer.proofs.Prints.{prints_both, prints_stopped}
use Rattle.rules_machine.specs.Machine.{closing}
use Rattle.rules_machine.specs.Runs.{ticks}
use Rattle.rules_flat_code.specs.FlatBodies.{flat_bodies}
use Rattle.tool_runs.proofs.runs.run_and_report.Goals as goal

pub returns-then-failed-clause-printed : goal.returns-then-failed-clause-printed
returns-then-failed-clause-printed g c =
    let k = c.args.kernel.now in
    let n : c.args.horizon - k.machine.now ≡ c.args.horizon = omega (arith, c.requires.fresh) in
    let run = rw n at c.run_until.ensures.told in
    prints_stopped _ _ _ _ _ (closing k.names (ticks (flat_bodies k.code) c.args.horizon k.machine).machine) run.told (sym c.failed.ensures ∙ c.if-failed.true)

pub returns-clause-printed : goal.returns-clause-printed
returns-clause-printed g c =
    let n : c.args.horizon - c.args.kernel.now.machine.now ≡ c.args.horizon = omega (arith, c.requires.fresh) in
    let run = rw n at c.run_until.ensures.told in
    let rest = rw (c.run_until.ensures.state (sym c.failed.ensures ∙ c.if-failed.false), n) at c.report.ensures in
    prints_both _ _ _ _ _ _ _ run.told rest

pub returns-then-failed-clause-busy : goal.returns-then-failed-clause-busy
returns-then-failed-clause-busy g c =
    let n : c.args.horizon - c.args.kernel.now.machine.now ≡ c.args.horizon = omega (arith, c.requires.fresh) in
    rw n at c.run_until.ensures.busy

pub returns-clause-busy : goal.returns-clause-busy
returns-clause-busy g c =
    let n : c.args.horizon - c.args.kernel.now.machine.now ≡ c.args.horizon = omega (arith, c.requires.fresh) in
    rw n at c.run_until.ensures.busy
