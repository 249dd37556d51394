use Rattle.laws_machine.proofs.Scripts.{keeps_budgets}
use Rattle.laws_machine.proofs.budgets_are_kept.Goals as goal

pub returns : goal.returns
returns c = keeps_budgets
