use Rattle.parts_owners.proofs.Turns.{alone_right}
use Rattle.parts_owners.proofs.walk.turn_alone.Goals as goal

pub returns-clause-right : goal.returns-clause-right
returns-clause-right c = rw c.get-3.ensures.value (alone_right _ _ c.args.t _ _ c.args.w.now c.requires.walks c.requires.nowhere c.requires.asks)
