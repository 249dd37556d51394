use Rattle.std.proofs.Common.{◌≡◌, ◌≤◌, ◌+◌, ◌*◌, ◌∙◌, List, Ok, Result, length, subst, sym}
use Rattle.tool_times.specs.declared.task.Task.{Task}
use Rattle.tool_times.specs.Read.{read}
use Rattle.tool_texts.proofs.responses.tell_responses.Goals as goal

same_tasks : {E : Type 0} (a b : List Task) (e : Result (List Task) E) → e ≡ Ok a → e ≡ Ok b → a ≡ b
same_tasks a b e is also = cc (sym is ∙ also)

pub returns-in-Ok-clause-rounds : goal.returns-in-Ok-clause-rounds
returns-in-Ok-clause-rounds g c tasks is =
    subst (λ (x : List Task). c.print_responses.new.steps ≤ c.args.steps.now + length x * (c.args.bound + 1))
    (same_tasks c.in-Ok.tasks tasks (read c.args.text.now) c.in-Ok.ensures.tasks is) c.print_responses.ensures.rounds
