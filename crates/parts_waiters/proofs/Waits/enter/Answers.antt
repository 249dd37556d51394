use Rattle.std.specs.Prelude.{Bool, List, Option, None, not, true}
use borrow.Author.Tests.{clash}
use Rattle.std.proofs.Common.{◌≡◌, ◌<◌, false, length, refl, set, subst, sym, ap, ◌∙◌, arith}
use Rattle.parts_links.specs.Links.{on_a_list, list_at}
use Rattle.parts_waiters.specs.declared.order.Candidate.{Candidate}
use Rattle.parts_waiters.specs.declared.Place.{Place}
use Rattle.parts_waiters.specs.Bound.{AreAlike, Fits}
use Rattle.parts_waiters.specs.Held.{number_of}
use Rattle.parts_waiters.specs.Places.{candidate_of, place_in}
use Rattle.parts_waiters.specs.Service.{stood_at}
use Rattle.parts_waiters.proofs.Alike.{stays_alike}
use Rattle.parts_waiters.proofs.Waiting.{off, entered}
use Rattle.parts_waiters.proofs.Waits.enter.Goals as goal
use Rattle.parts_waiters.proofs.Waits.enter.Goals.{then-self, else-self}

not_false : (b : Bool) → not b ≡ false → b ≡ true
not_false true e = refl
not_false false e = absurd cc

pub stand-requires-clause-node : goal.stand-requires-clause-node
stand-requires-clause-node c =
    let w = c.self.inside in
    let known = subst (λ (ps : List (Option Place)). c.args.t < length ps) (sym c.self.view_is) c.requires.known in
    let none = subst (λ (ps : List (Option Place)). place_in ps c.args.t ≡ None) (sym c.self.view_is) c.requires.nowhere in
    let number : c.of-waiter.result.thread ≡ c.args.t = ap (λ (x : Candidate). x.thread) c.of-waiter.ensures ∙ c.get.ensures.value in
    (omega (arith, number, c.get.ensures.small, c.get.ensures.value), subst (λ n. on_a_list n w.links.lists ≡ false) (sym number) (off w.places.items w.links c.args.t c.args.place.now c.self.invariant.held none known))

pub invariant_of-self : goal.invariant_of-self
invariant_of-self c =
    let w = c.self.inside in let p = c.args.place.now in
    let known = subst (λ (ps : List (Option Place)). c.args.t < length ps) (sym c.self.view_is) c.requires.known in
    let none = subst (λ (ps : List (Option Place)). place_in ps c.args.t ≡ None) (sym c.self.view_is) c.requires.nowhere in
    let is = c.stand.ensures
    ∙ ap (λ k. record w.links { lists = set w.links.lists k (stood_at c.deref-2.result.now c.of-waiter.result (list_at w.links.lists k)) }) c.number-list.ensures.number
    ∙ ap (λ (x : Candidate). record w.links { lists = set w.links.lists (number_of p.object) (stood_at c.deref-2.result.now x (list_at w.links.lists (number_of p.object))) }) c.of-waiter.ensures
    ∙ ap (λ n. record w.links { lists = set w.links.lists (number_of p.object) (stood_at c.deref-2.result.now (candidate_of n p) (list_at w.links.lists (number_of p.object))) }) c.get.ensures.value
    ∙ ap (λ (ps : List (Option Place)). record w.links { lists = set w.links.lists (number_of p.object) (stood_at ps (candidate_of c.args.t p) (list_at w.links.lists (number_of p.object))) }) c.deref-2.ensures.value in
    rw (c.get-2.ensures.value) (record {
      held = entered w.places.items w.links c.args.t p c.self.invariant.held none known c.stand.new.links is (omega (arith, c.number-list.ensures.number, c.number-list.ensures.small)) c.number-list.ensures.id;
      alike = λ on. absurd (clash on);
    })

pub invariant_of-self-else-differs : goal.invariant_of-self-else-differs
invariant_of-self-else-differs c =
    let w = c.self.inside in let p = c.args.place.now in
    let known = subst (λ (ps : List (Option Place)). c.args.t < length ps) (sym c.self.view_is) c.requires.known in
    let none = subst (λ (ps : List (Option Place)). place_in ps c.args.t ≡ None) (sym c.self.view_is) c.requires.nowhere in
    let is = c.stand.ensures
    ∙ ap (λ k. record w.links { lists = set w.links.lists k (stood_at c.deref-2.result.now c.of-waiter.result (list_at w.links.lists k)) }) c.number-list.ensures.number
    ∙ ap (λ (x : Candidate). record w.links { lists = set w.links.lists (number_of p.object) (stood_at c.deref-2.result.now x (list_at w.links.lists (number_of p.object))) }) c.of-waiter.ensures
    ∙ ap (λ n. record w.links { lists = set w.links.lists (number_of p.object) (stood_at c.deref-2.result.now (candidate_of n p) (list_at w.links.lists (number_of p.object))) }) c.get.ensures.value
    ∙ ap (λ (ps : List (Option Place)). record w.links { lists = set w.links.lists (number_of p.object) (stood_at ps (candidate_of c.args.t p) (list_at w.links.lists (number_of p.object))) }) c.deref-2.ensures.value in
    rw (c.get-2.ensures.value) (record {
      held = entered w.places.items w.links c.args.t p c.self.invariant.held none known c.stand.new.links is (omega (arith, c.number-list.ensures.number, c.number-list.ensures.small)) c.number-list.ensures.id;
      alike = λ on. elim c.if-self.branch [
        | then-self b ↦ (let same : b.fits.result ≡ true = not_false b.fits.result (sym b.differs-is ∙ c.if-differs.false) in
            stays_alike w.places.items c.args.t p known (c.self.invariant.alike on)
            (subst (λ (ps : List (Option Place)). Fits ps p) b.deref.ensures.value (b.fits.ensures same)))
        | else-self b ↦ absurd (clash (sym b.if-self.false ∙ on))
      ];
    })

pub fits-requires-clause-alike : goal.fits-requires-clause-alike
fits-requires-clause-alike c = subst AreAlike (sym c.deref.ensures.value) (c.self.invariant.alike c.if-self.true)
