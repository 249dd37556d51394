use Rattle.std.proofs.Common.{subst}
use Rattle.tool_answers.specs.Answer.{GivesAnswer, breach_answer}
use Rattle.tool_texts.proofs.audit.tell_breach.Goals as goal

-- where no rule is broken, the budgets hold
pub returns-in-None-clause-gives : goal.returns-in-None-clause-gives
returns-in-None-clause-gives g c servers is =
    subst (λ b. GivesAnswer g.K.Sink.text g.K.Sink.faults (breach_answer b) c.put_text.result c.args.sink.now c.put_text.new.sink) (c.in-None.ensures.counted servers is) c.put_text.ensures.gives
