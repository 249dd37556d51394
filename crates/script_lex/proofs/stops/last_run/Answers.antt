use Rattle.std.proofs.Common.{sym, ap, ◌∙◌, not}
use Rattle.script_lex.specs.Stops.{stops}
use Rattle.script_lex.proofs.Runs.{one_more, ends_here, ends_last}
use Rattle.script_lex.proofs.stops.last_run.Goals as goal

pub loop-at-preserved : goal.loop-at-preserved
loop-at-preserved c = one_more (λ x. not (stops c.args.stop x)) c.args.ahead.now c.args.len c.loop-at.at c.loop-at.invariant c.loop-at-test.true c.requires.room (ap not (sym c.stops.ensures ∙ c.if-not-stops.true))

pub returns-else-not-stops : goal.returns-else-not-stops
returns-else-not-stops c = ends_here (λ x. not (stops c.args.stop x)) c.args.ahead.now c.args.len c.loop-at.at c.loop-at.invariant c.loop-at-test.true (ap not (sym c.stops.ensures ∙ c.if-not-stops.false))

pub returns-after-loop-at : goal.returns-after-loop-at
returns-after-loop-at c = ends_last (λ x. not (stops c.args.stop x)) c.args.ahead.now c.args.len c.loop-at.at c.loop-at.invariant c.loop-at-test.false
