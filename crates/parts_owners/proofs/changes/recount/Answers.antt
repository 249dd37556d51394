use Rattle.parts_owners.specs.Chains.{links_of}
use Rattle.parts_owners.proofs.Begun.{same_recounted, settled_recounted}
use Rattle.parts_owners.proofs.changes.recount.Goals as goal

pub returns : goal.returns
returns c =
    let old = links_of c.args.claims.now c.args.mutexes.now in
    record {
      mutexes = c.set_count.ensures;
      settled = rw c.set_count.ensures (settled_recounted old _ c.args.k c.args.n c.requires.mutex c.requires.settled);
      same = rw c.set_count.ensures (same_recounted old _ c.args.k c.args.n c.requires.mutex c.requires.settled);
    }
