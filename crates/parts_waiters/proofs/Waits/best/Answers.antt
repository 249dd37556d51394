use Rattle.std.proofs.Common.{◌<◌, arith}
use Rattle.parts_waiters.proofs.Best.{best_given, none_given}
use Rattle.parts_waiters.proofs.Waits.best.Goals as goal

pub returns-in-Some : goal.returns-in-Some
returns-in-Some c =
    let w = c.self.inside in let n = c.in-Some.node in
    let small : n < 256 = omega (arith, c.in-Some.ensures.stands.0, c.self.invariant.held.nodes) in
    rw (← c.self.view_is) (best_given w.places.items w.links c.args.obj c.number.result n c.try_new.result c.self.invariant.held c.number.ensures.id c.number.ensures.number c.in-Some.ensures.head small c.try_new.ensures)

pub returns-in-None : goal.returns-in-None
returns-in-None c =
    let w = c.self.inside in
    rw (← c.self.view_is) (none_given w.places.items w.links c.args.obj c.number.result c.self.invariant.held c.number.ensures.id c.number.ensures.number c.in-None.ensures.head)
