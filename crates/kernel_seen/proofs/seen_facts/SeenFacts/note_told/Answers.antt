use Rattle.std.proofs.Common.{ap, arith, length}
use Rattle.kernel_seen.specs.FactSeen.{Memory}
use Rattle.kernel_seen.proofs.ToldBits.{beyond_told}
use Rattle.kernel_seen.proofs.seen_facts.SeenFacts.note_told.Goals as goal

pub returns-else-index-len-clause-told : goal.returns-else-index-len-clause-told
returns-else-index-len-clause-told c =
    let past = c.if-index-len.false in
    let long = c.len.ensures in
    let same = ap (λ (m : Memory). length m.busy) c.self.view_is in
    beyond_told c.args.self.now.busy c.args.number (omega (arith, past, long, same))
