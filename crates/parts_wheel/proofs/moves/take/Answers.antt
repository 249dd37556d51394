use Rattle.std.proofs.Common.{◌≡◌, true, false, nat_lt, is_some, List, [], ℕ, length, slice_get, refl, sym, ap, subst, ◌∙◌}
use Rattle.parts_links.specs.Links.{list_at}
use Rattle.parts_links.proofs.Standing.{no_head, within}
use Rattle.parts_wheel.proofs.Stands.{some_head, still_sized, taken_by, taken_marks, taken_marks_kept}
use Rattle.parts_wheel.proofs.Walking.{not_some}
use Rattle.parts_wheel.proofs.moves.take.Goals as goal

pub returns-in_err-list : goal.returns-in_err-list
returns-in_err-list c = absurd (let off = c.in_err-list.ensures in let on = c.requires.node.1 in cc)

pub returns-then-is_some : goal.returns-then-is_some
returns-then-is_some c =
    let node = c.args.node in let list = c.in_ok-list.list in let old = c.args.links.now in let new = c.unlink.new.self in
    let at = c.in_ok-list.ensures in
    let taken = taken_by node old new c.unlink.ensures.lists c.unlink.ensures.gone c.unlink.ensures.others in
    let head : is_some (slice_get (list_at new.lists list) 0) ≡ true = sym (ap is_some c.front.ensures.head) ∙ sym c.is_some.ensures ∙ c.if-is_some.true in
    record {
      sized = still_sized node old new c.args.occupied.now c.args.occupied.now c.requires.sized c.unlink.ensures.lists refl;
      marked = taken_marks_kept node list old.lists new.lists c.args.occupied.now taken at.1 c.requires.marked (some_head _ head);
      taken = taken;
      left = λ k h. c.stand_once.ensures.one_list node list k at.0 (within node k old.lists h) at.1 h;
    }

pub returns : goal.returns
returns c =
    let node = c.args.node in let list = c.in_ok-list.list in let old = c.args.links.now in let new = c.unlink.new.self in
    let at = c.in_ok-list.ensures in
    let taken = taken_by node old new c.unlink.ensures.lists c.unlink.ensures.gone c.unlink.ensures.others in
    let none = not_some c.front.result (sym c.is_some.ensures ∙ c.if-is_some.false) in
    let empty = no_head (list_at new.lists list) (sym none ∙ c.front.ensures.head) in
    record {
      sized = still_sized node old new c.args.occupied.now c.set.new.self c.requires.sized c.unlink.ensures.lists c.set.ensures.len;
      marked = taken_marks node list old.lists new.lists c.args.occupied.now c.set.new.self false taken at.1 c.requires.marked c.set.ensures.bit
          (sym (ap (λ (xs : List ℕ). nat_lt 0 (length xs)) empty));
      taken = taken;
      left = λ k h. subst (λ m. list_at new.lists m ≡ []) (c.stand_once.ensures.one_list node list k at.0 (within node k old.lists h) at.1 h) empty;
    }
