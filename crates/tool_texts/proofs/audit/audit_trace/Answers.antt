use Rattle.tool_answers.specs.Answer.{GivesAnswer}
use Rattle.tool_texts.proofs.Opened.{of_opened}
use Rattle.tool_texts.proofs.audit.audit_trace.Goals as goal

-- the servers of the audit are those of the head
pub returns-in-Ok : goal.returns-in-Ok
returns-in-Ok g c =
    of_opened (λ a. GivesAnswer g.K.Sink.text g.K.Sink.faults a c.tell_breach.result c.args.sink.now c.tell_breach.new.sink) c.in-Ok.audit _ c.args.trace.now
    c.in-Ok.ensures.opened c.tell_breach.ensures.gives
