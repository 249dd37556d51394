use Rattle.std.proofs.Common.{◌+◌, ◌∙◌, arith}
use Rattle.std.proofs.Math.Nat.{add-mul}
use Rattle.tool_report.proofs.Lines.{went_on, stopped_at}
use Rattle.tool_report.proofs.report.put_responses.Goals as goal

pub returns-in-Err-clause-written : goal.returns-in-Err-clause-written
returns-in-Err-clause-written g c =
    stopped_at c.args.bound c.args.tasks.now c.loop-k.k _ _ _ (omega (arith, c.loop-k-test.true, c.count-k-end.ensures)) c.loop-k.invariant.text c.in-Err.ensures.written

pub loop-k-preserved : goal.loop-k-preserved
loop-k-preserved g c =
    record {
      text = went_on c.args.bound c.args.tasks.now c.loop-k.k _ _ _ (omega (arith, c.loop-k-test.true, c.count-k-end.ensures)) c.loop-k.invariant.text c.in-Ok.ensures.written;
      faults = c.in-Ok.ensures.cause.ok ∙ c.loop-k.invariant.faults;
      rounds = omega (arith, c.loop-k.invariant.rounds, c.put_response.ensures.rounds, add-mul c.loop-k.k 1 (c.args.bound + 1));
    }
