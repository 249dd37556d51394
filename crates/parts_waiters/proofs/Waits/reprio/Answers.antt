use Rattle.std.specs.Prelude.{IsSome, List, Option, None, Some}
use Rattle.std.proofs.Common.{◌≡◌, get_or, set, subst, sym, ap, ◌∙◌}
use Rattle.parts_waiters.specs.declared.Place.{Place}
use Rattle.parts_waiters.specs.Places.{place_in, repriced}
use Rattle.parts_waiters.proofs.Waiting.{on_list, repriced_is, read_place}
use Rattle.parts_waiters.proofs.Waits.reprio.Goals as goal

pub returns : goal.returns
returns c =
    let w = c.self.inside in let t = c.args.t in let old = c.in-Some.place in let v = c.index.result.now in
    let asked = subst (λ (ps : List (Option Place)). IsSome (place_in ps t)) (sym c.self.view_is) c.requires in
    let on = on_list w.places.items w.links t c.self.invariant.held asked in
    let at = read_place w.places.items t old v (subst (λ n. v ≡ get_or w.places.items n v) c.get.ensures.value c.index.ensures) c.in-Some.is on.0 in
    let left = c.leave.ensures ∙ ap (λ (ps : List (Option Place)). set ps t None) (sym c.self.view_is) in
    c.enter.ensures ∙ ap (λ (ps : List (Option Place)). set ps t (Some (record old { priority = c.args.p }))) left
    ∙ repriced_is w.places.items t c.args.p old at ∙ ap (λ (ps : List (Option Place)). repriced t c.args.p ps) c.self.view_is
