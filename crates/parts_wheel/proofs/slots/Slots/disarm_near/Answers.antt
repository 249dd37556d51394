use Rattle.std.proofs.Common.{◌≡◌, ◌<◌, ◌/◌, None, Some, true, length, subst, sym, arith}
use Rattle.std.proofs.Math.ListN.{length-set}
use Rattle.parts_links.specs.Links.{stands_at}
use Rattle.parts_wheel.specs.Slots.{Placed, IsLeastLater}
use Rattle.parts_wheel.specs.Dues.{due_of}
use Rattle.parts_wheel.proofs.Filing.{none_some, near_list}
use Rattle.parts_wheel.proofs.Holding.{still_small, comes_next, disarmed_later}
use Rattle.parts_wheel.proofs.slots.Slots.disarm_near.Goals as goal

pub take_from-requires-clause-node : goal.take_from-requires-clause-node
take_from-requires-clause-node c =
    let s = c.self.inside in let id = c.args.id in let d = c.args.due in let i = c.self.invariant in
    let asked = subst (λ (p : Placed). (id < length p.dues) × (due_of id p.dues ≡ Some d)) (sym c.self.view_is) c.requires.item in
    let next = subst (λ (p : Placed). IsLeastLater p.base p.dues d) (sym c.self.view_is) c.requires.next in
    let near = subst (λ (p : Placed). d / 2048 ≡ p.base / 2048) (sym c.self.view_is) c.requires.near in
    let after = comes_next s.base d s.dues.items next (i.small id d asked.1) in
    (omega (arith, asked.0, i.few), subst (λ k. stands_at id k s.links.lists ≡ true) (near_list s.base d near) (i.filed.later id d asked.1 after))

pub invariant_of-self : goal.invariant_of-self
invariant_of-self c =
    let s = c.self.inside in let id = c.args.id in let d = c.args.due in let i = c.self.invariant in let new = c.take_from.new.links.lists in
    let asked = subst (λ (p : Placed). (id < length p.dues) × (due_of id p.dues ≡ Some d)) (sym c.self.view_is) c.requires.item in
    let next = subst (λ (p : Placed). IsLeastLater p.base p.dues d) (sym c.self.view_is) c.requires.next in
    let after = comes_next s.base d s.dues.items next (i.small id d asked.1) in
    record {
      sized = c.take_from.ensures.sized;
      set = i.set;
      few = omega (arith, i.few, length-set s.dues.items id None);
      marked = c.take_from.ensures.marked;
      filed = disarmed_later s.base id d s.dues.items s.links.lists new s.passed s.passed i.filed asked.1 after c.take_from.ensures.taken;
      small = still_small s.dues.items id None i.small (λ e h. absurd (none_some h)) asked.0;
    }

pub returns-clause-later : goal.returns-clause-later
returns-clause-later c =
    let s = c.self.inside in let id = c.args.id in let d = c.args.due in let i = c.self.invariant in
    let asked = subst (λ (p : Placed). (id < length p.dues) × (due_of id p.dues ≡ Some d)) (sym c.self.view_is) c.requires.item in
    let next = subst (λ (p : Placed). IsLeastLater p.base p.dues d) (sym c.self.view_is) c.requires.next in
    subst (λ (p : Placed). p.base < d) c.self.view_is (comes_next s.base d s.dues.items next (i.small id d asked.1))
