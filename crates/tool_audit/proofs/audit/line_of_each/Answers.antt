use Rattle.tool_check.specs.Lines.{seen}
use Rattle.tool_audit.proofs.EachServer.{rule_next, ahead_next, after_next}
use Rattle.tool_audit.proofs.audit.line_of_each.Goals as goal

pub loop-w-preserved : goal.loop-w-preserved
loop-w-preserved c = record {
  rule = rule_next (seen c.args.line.now) c.args.servers.now c.loop-w.servers c.loop-w.w-index c.w-item.result c.line.new.self c.loop-w.found c.line.result c.least-found.result c.loop-w-test.true c.loop-w.auto.servers c.loop-w.invariant.ahead c.line.ensures.rule c.line.ensures.after c.least-found.ensures _ c.loop-w.invariant.rule;
  ahead = ahead_next (seen c.args.line.now) c.args.servers.now c.loop-w.servers c.loop-w.w-index c.w-item.result c.line.new.self c.loop-w.found c.line.result c.least-found.result c.loop-w-test.true c.loop-w.auto.servers c.loop-w.invariant.ahead c.line.ensures.rule c.line.ensures.after c.least-found.ensures;
  after = after_next (seen c.args.line.now) c.args.servers.now c.loop-w.servers c.loop-w.w-index c.w-item.result c.line.new.self c.loop-w.found c.line.result c.least-found.result c.loop-w-test.true c.loop-w.auto.servers c.loop-w.invariant.ahead c.line.ensures.rule c.line.ensures.after c.least-found.ensures c.loop-w.invariant.after;
}
