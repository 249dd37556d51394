use Rattle.kernel_seen.proofs.ToldBits.{quiet_more}
use Rattle.kernel_seen.proofs.seen_facts.SeenFacts.quiet_from.Goals as goal

pub returns-clause-quiet : goal.returns-clause-quiet
returns-clause-quiet c =
    quiet_more c.args.self.now.busy c.args.number c.quiet_in_word-quiet.result c.quiet_in_words.result c.quiet_in_word-quiet.ensures.quiet c.quiet_in_words.ensures.quiet
