use Rattle.std.proofs.Common.{◌≤◌, ◌+◌, ℕ, subst}
use Rattle.parts_tracer.specs.Prints.{Prints}
use Rattle.tool_runs.proofs.Opened.{opened_busy, opened_text}
use Rattle.tool_runs.proofs.runs.open_and_run.Goals as goal

pub returns : goal.returns
returns g c = record {
  printed = subst (λ text. Prints g.K.Sink.text g.K.Sink.faults c.args.out.now c.run_and_report.new.out text)
      (opened_text c.in_ok-kernel.kernel c.args.script.now c.args.horizon c.in_ok-kernel.ensures) c.run_and_report.ensures.printed;
  unchanged = tt;
  busy = subst (λ (n : ℕ). c.run_and_report.new.steps ≤ c.args.steps.now + n + 1) (opened_busy c.in_ok-kernel.kernel c.args.script.now c.args.horizon c.in_ok-kernel.ensures) c.run_and_report.ensures.busy;
}
