use Rattle.std.proofs.Common.{arith}
use Rattle.kernel_seen.proofs.ToldBits.{quiet_more}
use Rattle.kernel_seen.proofs.seen_facts.SeenFacts.quiet_in_words.Goals as goal

pub loop-quiet-preserved : goal.loop-quiet-preserved
loop-quiet-preserved c = record {
  few = omega arith;
  first = omega (arith, c.loop-quiet.invariant.first);
  quiet = quiet_more c.args.self.now.busy c.args.number c.loop-quiet.quiet 64 c.loop-quiet.invariant.quiet (c.is_quiet_word.ensures c.if-is_quiet_word.true);
}

pub returns-clause-quiet : goal.returns-clause-quiet
returns-clause-quiet c =
    quiet_more c.args.self.now.busy c.args.number c.loop-quiet.quiet c.quiet_in_word.result c.loop-quiet.invariant.quiet c.quiet_in_word.ensures.quiet
