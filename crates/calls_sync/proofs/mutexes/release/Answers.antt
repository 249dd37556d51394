use Rattle.calls_sync.proofs.Released.{first_is}
use Rattle.calls_sync.proofs.mutexes.release.Goals as goal

pub hand_over-requires-clause-best : goal.hand_over-requires-clause-best
hand_over-requires-clause-best g c = first_is c.args.p.now.machine c.args.k _ c.in-Some.ensures.value
