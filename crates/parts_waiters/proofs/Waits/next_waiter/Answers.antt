use Rattle.std.specs.Prelude.{IsSome, List, Option}
use Rattle.std.proofs.Common.{◌<◌, subst, sym, ap, ◌∙◌, arith}
use Rattle.parts_links.specs.Links.{follower_on}
use Rattle.parts_waiters.specs.declared.Place.{Place}
use Rattle.parts_waiters.specs.Places.{place_in}
use Rattle.parts_waiters.proofs.Best.{follows_here, next_here, next_none, thread_given}
use Rattle.parts_waiters.proofs.Waiting.{has_place, on_list}
use Rattle.parts_waiters.proofs.Waits.next_waiter.Goals as goal

pub next-requires : goal.next-requires
next-requires c =
    let w = c.self.inside in
    let asked = subst (λ (ps : List (Option Place)). IsSome (place_in ps c.args.t)) (sym c.self.view_is) c.requires.waits in
    let on = on_list w.places.items w.links c.args.t c.self.invariant.held asked in
    rw (c.get.ensures.value) (omega (arith, on.0, c.self.invariant.held.few, c.self.invariant.held.nodes), on.1)

pub returns-in-Some : goal.returns-in-Some
returns-in-Some c =
    let w = c.self.inside in let n = c.in-Some.node in let t = c.args.t in
    let small : n < 256 = omega (arith, c.in-Some.ensures.stands.0, c.self.invariant.held.nodes) in
    let asked = subst (λ (ps : List (Option Place)). IsSome (place_in ps t)) (sym c.self.view_is) c.requires.waits in
    let p = has_place (place_in w.places.items t) asked in
    let follows = sym (follows_here w.places.items w.links c.self.invariant.held c.stand_once.ensures t p.0 p.1) ∙ ap (λ m. follower_on m w.links.lists) (sym c.get.ensures.value) ∙ sym c.in-Some.ensures.follower in
    rw (← c.self.view_is) (thread_given c.try_new.result n c.try_new.ensures small ∙ sym (next_here w.places.items w.links c.self.invariant.held c.stand_once.ensures t p.0 p.1 n follows))

pub returns-in-None : goal.returns-in-None
returns-in-None c =
    let w = c.self.inside in let t = c.args.t in
    let asked = subst (λ (ps : List (Option Place)). IsSome (place_in ps t)) (sym c.self.view_is) c.requires.waits in
    let p = has_place (place_in w.places.items t) asked in
    let follows = sym (follows_here w.places.items w.links c.self.invariant.held c.stand_once.ensures t p.0 p.1) ∙ ap (λ m. follower_on m w.links.lists) (sym c.get.ensures.value) ∙ sym c.in-None.ensures.follower in
    rw (← c.self.view_is) (sym (next_none w.places.items w.links c.self.invariant.held c.stand_once.ensures t p.0 p.1 follows))
