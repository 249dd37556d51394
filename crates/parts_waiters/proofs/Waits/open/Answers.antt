use Rattle.parts_waiters.proofs.Alike.{none_alike}
use Rattle.parts_waiters.proofs.Waiting.{opened}
use Rattle.parts_waiters.proofs.Waits.open.Goals as goal

pub invariant_of-result : goal.invariant_of-result
invariant_of-result c = record {
  held = opened c.args.threads c.in_ok-places.places.items c.in_ok-links.links c.requires c.in_ok-places.ensures c.in_ok-links.ensures;
  alike = λ on. none_alike c.args.threads c.in_ok-places.places.items c.in_ok-places.ensures;
}
