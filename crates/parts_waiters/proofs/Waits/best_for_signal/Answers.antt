use Rattle.std.proofs.Common.{◌≡◌, ◌<◌, None, Some, sym, subst, ◌∙◌, arith}
use Rattle.parts_links.specs.Links.{list_at}
use Rattle.parts_waiters.specs.Service.{first_holding}
use Rattle.parts_waiters.proofs.Best.{awaits_here, awaits_none, thread_given}
use Rattle.parts_waiters.proofs.Waits.best_for_signal.Goals as goal

pub overflow_cast-node : goal.overflow_cast-node
overflow_cast-node g c = let small : c.in-Some.node < 256 = c.in-Some.ensures.known in omega (arith, small)

pub returns-in-Some : goal.returns-in-Some
returns-in-Some g c =
    let w = c.self.inside in let n = c.in-Some.node in let sig = c.args.sig in let sets = g.S.SignalSets.sets c.args.sets.now in
    let first = sym (subst (λ k. Some n ≡ first_holding sig sets (list_at w.links.lists k)) c.number.ensures.number c.in-Some.ensures.first) in
    rw (← c.self.view_is) (thread_given c.try_new.result n c.try_new.ensures c.in-Some.ensures.known ∙ sym (awaits_here sig sets w.places.items w.links c.self.invariant.held n first))

pub returns-in-None : goal.returns-in-None
returns-in-None g c =
    let w = c.self.inside in let sig = c.args.sig in let sets = g.S.SignalSets.sets c.args.sets.now in
    let first = sym (subst (λ k. None ≡ first_holding sig sets (list_at w.links.lists k)) c.number.ensures.number c.in-None.ensures.first) in
    rw (← c.self.view_is) (sym (awaits_none sig sets w.places.items w.links c.self.invariant.held first))
