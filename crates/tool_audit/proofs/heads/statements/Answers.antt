use Rattle.tool_audit.proofs.PhaseOne.{ends, past, says, says_nothing}
use Rattle.tool_audit.proofs.heads.statements.Goals as goal

pub returns-in-Err : goal.returns-in-Err
returns-in-Err c =
    let at = c.in-Some.ensures.number in
    ends _ _ _ _ _ _ c.in-Some.ensures.line at.0 at.1 _ c.in-Err.kind c.in-Err.ensures c.loop-line.invariant.faults

pub loop-line-preserved-in-Ok-None : goal.loop-line-preserved-in-Ok-None
loop-line-preserved-in-Ok-None c =
    let at = c.in-Some.ensures.number in
    let h = rw c.in-Ok-None.field-0-is at c.in-Ok-None.ensures in
    record {
      faults = past _ _ _ _ _ _ c.in-Some.ensures.line at.0 at.1 _ h.0 c.loop-line.invariant.faults;
      said = says_nothing _ _ _ _ _ _ c.in-Some.ensures.line at.0 at.1 _ _ h.1 c.loop-line.invariant.said;
    }

pub loop-line-preserved : goal.loop-line-preserved
loop-line-preserved c =
    let at = c.in-Some.ensures.number in
    let h = rw c.in-Ok-Some.field-0-is at c.in-Ok-Some.ensures in
    record {
      faults = past _ _ _ _ _ _ c.in-Some.ensures.line at.0 at.1 _ h.0 c.loop-line.invariant.faults;
      said = rw c.in_ok-push-in-Ok-Some.ensures.items (says _ _ _ _ _ _ c.in-Some.ensures.line at.0 at.1 _ _ _ h.1 c.loop-line.invariant.said);
    }
