use Rattle.parts_owners.proofs.Opened.{opened}
use Rattle.parts_owners.proofs.chain.Chain.open.Goals as goal

pub invariant_of-result : goal.invariant_of-result
invariant_of-result c =
    let o = opened c.args.threads c.args.kinds.now _ _ _ c.in_ok-fresh_claims.ensures c.in_ok-free_mutexes.ensures c.in_ok-lowest.ensures c.requires in
    record { few = o.0; settled = o.1 }
