use Rattle.std.proofs.Common.{sym, ◌∙◌, arith}
use Rattle.script_lex.specs.Words.{is_blank}
use Rattle.script_lex.proofs.Runs.{taken, one_more, ends_here, ends_last}
use Rattle.script_lex.proofs.words.blanks.Goals as goal

pub loop-at-preserved : goal.loop-at-preserved
loop-at-preserved c = one_more is_blank c.args.ahead.now c.args.len c.loop-at.at c.loop-at.invariant c.loop-at-test.true c.requires (sym c.is_blank.ensures ∙ c.if-is_blank.true)

pub returns-else-is_blank-clause-len : goal.returns-else-is_blank-clause-len
returns-else-is_blank-clause-len c = ends_here is_blank c.args.ahead.now c.args.len c.loop-at.at c.loop-at.invariant c.loop-at-test.true (sym c.is_blank.ensures ∙ c.if-is_blank.false)

pub returns-after-loop-at-clause-len : goal.returns-after-loop-at-clause-len
returns-after-loop-at-clause-len c = ends_last is_blank c.args.ahead.now c.args.len c.loop-at.at c.loop-at.invariant c.loop-at-test.false

pub returns-after-loop-at-clause-bound : goal.returns-after-loop-at-clause-bound
returns-after-loop-at-clause-bound c = omega (arith, taken is_blank c.args.ahead.now c.args.len, c.loop-at.invariant)
