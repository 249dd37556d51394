use Rattle.std.proofs.Common.{◌≡◌, ◌≤◌, ◌-◌, Bool, true, false, refl, arith}
use Rattle.tool_runs.proofs.runs.soak_kernel.Goals as goal

not_true : (b : Bool) → (b ≡ true → ⊥) → b ≡ false
not_true true never = absurd (never refl)
not_true false never = refl

-- a sink that keeps nothing has no faults, so that no write to it fails
pub returns-clause-state : goal.returns-clause-state
returns-clause-state g c =
    let n : c.args.horizon - c.args.kernel.now.machine.now ≡ c.args.horizon = omega (arith, c.requires.fresh) in
    let taken : c.run_until.new.out.failed ≡ false =
    not_true c.run_until.new.out.failed (λ failed. let rose : 1 ≤ 0 = c.run_until.ensures.told.told.printed.fault c.new-out.ensures.fresh failed in omega arith) in
    rw n at c.run_until.ensures.state taken

pub returns-clause-busy : goal.returns-clause-busy
returns-clause-busy g c =
    let n : c.args.horizon - c.args.kernel.now.machine.now ≡ c.args.horizon = omega (arith, c.requires.fresh) in
    rw n at c.run_until.ensures.busy
