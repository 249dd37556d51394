use Rattle.std.proofs.Common.{◌≡◌, ◌≤◌, ◌+◌, ◌∙◌, ℕ, ap, subst}
use Rattle.parts_tracer.specs.Prints.{Prints}
use Rattle.rules_machine.specs.Machine.{closing}
use Rattle.kernel_state.specs.Kernel.{Kernel}
use Rattle.tool_answers.specs.Answer.{closing_lines}
use Rattle.tool_runs.proofs.Opened.{opened_busy, opened_closing}
use Rattle.tool_runs.proofs.runs.print_closing.Goals as goal

pub returns : goal.returns
returns g c =
    let ended : closing c.soak_kernel.new.kernel.names c.soak_kernel.new.kernel.machine ≡ closing_lines c.args.script.now c.args.horizon =
    ap (λ (k : Kernel). closing k.names k.machine) c.soak_kernel.ensures.state
    ∙ opened_closing c.in_ok-kernel.kernel c.args.script.now c.args.horizon c.in_ok-kernel.ensures in
    record {
      printed = subst (λ text. Prints g.K.Sink.text g.K.Sink.faults c.args.out.now c.report.new.out text) ended c.report.ensures;
      unchanged = tt;
      busy = subst (λ (n : ℕ). c.soak_kernel.new.steps ≤ c.args.steps.now + n + 1) (opened_busy c.in_ok-kernel.kernel c.args.script.now c.args.horizon c.in_ok-kernel.ensures) c.soak_kernel.ensures.busy;
    }
