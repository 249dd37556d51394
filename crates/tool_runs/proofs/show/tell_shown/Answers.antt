use Rattle.std.proofs.Common.{subst, ℕ, ◌+◌, ◌≤◌}
use Rattle.tool_runs.proofs.Opened.{opened_busy}
use Rattle.tool_runs.proofs.show.tell_shown.Goals as goal

pub returns-in-Ok-show-clause-busy : goal.returns-in-Ok-show-clause-busy
returns-in-Ok-show-clause-busy g c =
    subst (λ (n : ℕ). c.soak_kernel.new.steps ≤ c.args.steps.now + n + 1) (opened_busy c.in-Ok.kernel c.args.script.now c.args.horizon c.in-Ok.ensures) c.soak_kernel.ensures.busy

pub returns-in-Err-show-clause-busy : goal.returns-in-Err-show-clause-busy
returns-in-Err-show-clause-busy g c =
    subst (λ (n : ℕ). c.soak_kernel.new.steps ≤ c.args.steps.now + n + 1) (opened_busy c.in-Ok.kernel c.args.script.now c.args.horizon c.in-Ok.ensures) c.soak_kernel.ensures.busy
