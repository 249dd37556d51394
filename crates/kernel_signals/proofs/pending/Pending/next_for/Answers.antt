use Rattle.std.proofs.Common.{List, ap, ◌∙◌}
use Rattle.rules_machine.specs.Lists.{first_by}
use Rattle.rules_machine.specs.Signals.{is_selected_before}
use Rattle.rules_machine.specs.State.{SignalRecord}
use Rattle.kernel_signals.proofs.Selecting.{taken_same}
use Rattle.kernel_signals.proofs.pending.Pending.next_for.Goals as goal

pub returns-clause-value : goal.returns-clause-value
returns-clause-value c =
    c.next_in.ensures.value
    ∙ ap (λ (rs : List SignalRecord). first_by is_selected_before rs)
    (taken_same c.args.t c.args.mask c.args.kills c.let_through.result c.args.runs_handlers c.let_through.ensures c.args.self.now c.next_in.ensures.signals)
