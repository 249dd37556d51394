use Rattle.std.specs.Prelude.{IsSome, List, Option}
use Rattle.std.proofs.Common.{◌≡◌, false, map, subst, sym, ap, ◌∙◌, arith}
use Rattle.parts_links.specs.Links.{on_a_list, without}
use Rattle.parts_waiters.specs.declared.Place.{Place}
use Rattle.parts_waiters.specs.Places.{place_in}
use Rattle.parts_waiters.proofs.Alike.{left_alike}
use Rattle.parts_waiters.proofs.Waiting.{has_left, on_list}
use Rattle.parts_waiters.proofs.Waits.leave.Goals as goal

pub unlink-requires : goal.unlink-requires
unlink-requires c =
    let w = c.self.inside in
    let asked = subst (λ (ps : List (Option Place)). IsSome (place_in ps c.args.t)) (sym c.self.view_is) c.requires in
    let on = on_list w.places.items w.links c.args.t c.self.invariant.held asked in
    rw (c.get.ensures.value) (omega (arith, on.0, c.self.invariant.held.few, c.self.invariant.held.nodes), on.1)

pub invariant_of-self : goal.invariant_of-self
invariant_of-self c =
    let w = c.self.inside in
    let asked = subst (λ (ps : List (Option Place)). IsSome (place_in ps c.args.t)) (sym c.self.view_is) c.requires in
    let on = on_list w.places.items w.links c.args.t c.self.invariant.held asked in
    rw (c.get-2.ensures.value) (record {
      held = has_left w.places.items w.links c.unlink.new.self c.args.t c.self.invariant.held on.0
          (c.unlink.ensures.lists ∙ ap (λ n. record w.links { lists = map (without n) w.links.lists }) c.get.ensures.value)
          (subst (λ n. on_a_list n c.unlink.new.self.lists ≡ false) c.get.ensures.value c.unlink.ensures.gone);
      alike = λ on. left_alike w.places.items c.args.t (c.self.invariant.alike on);
    })
