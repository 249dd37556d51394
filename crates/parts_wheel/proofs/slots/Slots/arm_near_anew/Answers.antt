use Rattle.std.proofs.Common.{◌≡◌, ◌<◌, ◌≤◌, ◌/◌, ◌*◌, ◌^◌, None, Some, length, set, refl, subst, sym, arith, ◌∙◌, ap, true}
use Rattle.std.proofs.Math.ListN.{length-set}
use Rattle.parts_links.specs.Links.{stands_at}
use Rattle.parts_wheel.specs.Bits.{ChangesBit}
use Rattle.parts_wheel.specs.Slots.{Placed, AreFiled, IsLeastLater, list_for}
use Rattle.parts_wheel.specs.Dues.{due_of}
use Rattle.parts_wheel.specs.Moves.{IsFiled, IsNoted, with_last}
use Rattle.parts_wheel.proofs.Holding.{armed, comes_next, disarmed_later, off_lists, set_same, set_twice, still_small}
use Rattle.parts_wheel.proofs.Filing.{list_small, near_list}
use Rattle.parts_wheel.proofs.Stands.{filed_mark}
use Rattle.parts_wheel.proofs.slots.Slots.arm_near_anew.Goals as goal

pub take_from-requires-clause-node : goal.take_from-requires-clause-node
take_from-requires-clause-node c =
    let s = c.self.inside in let id = c.args.id in let b = c.args.before in let i = c.self.invariant in
    let asked = subst (λ (p : Placed). (id < length p.dues) × (due_of id p.dues ≡ Some b)) (sym c.self.view_is) c.requires.item in
    let next = subst (λ (p : Placed). IsLeastLater p.base p.dues b) (sym c.self.view_is) c.requires.next in
    let near = subst (λ (p : Placed). b / 2048 ≡ p.base / 2048) (sym c.self.view_is) c.requires.near in
    let after = comes_next s.base b s.dues.items next (i.small id b asked.1) in
    (omega (arith, asked.0, i.few), subst (λ k. stands_at id k s.links.lists ≡ true) (near_list s.base b near) (i.filed.later id b asked.1 after))

pub put-requires-clause-node : goal.put-requires-clause-node
put-requires-clause-node c =
    let s = c.self.inside in let id = c.args.id in let b = c.args.before in let d = c.args.due in let i = c.self.invariant in let mid = c.take_from.new.links.lists in
    let asked = subst (λ (p : Placed). (id < length p.dues) × (due_of id p.dues ≡ Some b)) (sym c.self.view_is) c.requires.item in
    let next = subst (λ (p : Placed). IsLeastLater p.base p.dues b) (sym c.self.view_is) c.requires.next in
    let after = comes_next s.base b s.dues.items next (i.small id b asked.1) in
    let at : c.list_for-list.result ≡ list_for s.base d = c.list_for-list.ensures ∙ ap (list_for s.base) c.get.ensures.value in
    let small : d ≤ 3 * 10 ^ 18 = omega (arith, c.get.ensures.range, c.get.ensures.value) in
    let l = list_small s.base d (omega (arith, after, c.requires.later)) small in
    let left = disarmed_later s.base id b s.dues.items s.links.lists mid s.passed s.passed i.filed asked.1 after c.take_from.ensures.taken in (
      omega (arith, asked.0, i.few),
      omega (arith, l, at),
      off_lists s.base id 0 (set s.dues.items id None) mid mid s.passed s.passed left (set_same id None s.dues.items asked.0) (omega (arith, asked.0, length-set s.dues.items id None)),
    )

pub invariant_of-self : goal.invariant_of-self
invariant_of-self c =
    let s = c.self.inside in let id = c.args.id in let b = c.args.before in let d = c.args.due in let i = c.self.invariant in
    let mid = c.take_from.new.links.lists in let new = c.put.new.links.lists in let left-dues = set s.dues.items id None in
    let asked = subst (λ (p : Placed). (id < length p.dues) × (due_of id p.dues ≡ Some b)) (sym c.self.view_is) c.requires.item in
    let next = subst (λ (p : Placed). IsLeastLater p.base p.dues b) (sym c.self.view_is) c.requires.next in
    let after = comes_next s.base b s.dues.items next (i.small id b asked.1) in
    let later : s.base < d = omega (arith, after, c.requires.later) in
    let at : c.list_for-list.result ≡ list_for s.base d = c.list_for-list.ensures ∙ ap (list_for s.base) c.get.ensures.value in
    let filed : IsFiled s.base id d mid new s.passed s.passed = record {
      gone = λ le. absurd (omega (arith, le, later));
      later = λ l. (subst (λ k. new ≡ with_last k id mid) at c.put.ensures.put, refl);
    } in
    let noted : IsNoted s.base d c.take_from.new.occupied c.put.new.occupied = record {
      gone = λ le. absurd (omega (arith, le, later));
      later = λ l. subst (λ k. ChangesBit k true c.take_from.new.occupied c.put.new.occupied) at c.put.ensures.bit;
    } in
    let small : d ≤ 3 * 10 ^ 18 = omega (arith, c.get.ensures.range, c.get.ensures.value) in
    let inside : s.base < d → list_for s.base d < length mid = λ lt. let l = list_small s.base d lt small in omega (arith, l, c.take_from.ensures.sized.lists) in
    let left = disarmed_later s.base id b s.dues.items s.links.lists mid s.passed s.passed i.filed asked.1 after c.take_from.ensures.taken in
    let one = armed s.base id d left-dues mid new s.passed s.passed left (set_same id None s.dues.items asked.0) (omega (arith, asked.0, length-set s.dues.items id None)) inside filed in
    record {
      sized = c.put.ensures.sized;
      set = i.set;
      few = omega (arith, i.few, length-set s.dues.items id (Some d));
      marked = λ k. filed_mark s.base id d k mid new s.passed s.passed c.take_from.new.occupied c.put.new.occupied inside filed noted (c.take_from.ensures.marked k);
      filed = subst (λ ds. AreFiled s.base ds new s.passed) (set_twice id None (Some d) s.dues.items) one;
      small = still_small s.dues.items id (Some d) i.small (λ e h. let q : d ≡ e = cc in omega (arith, q, small)) asked.0;
    }

pub returns-clause-later : goal.returns-clause-later
returns-clause-later c =
    let s = c.self.inside in let id = c.args.id in let b = c.args.before in let i = c.self.invariant in
    let asked = subst (λ (p : Placed). (id < length p.dues) × (due_of id p.dues ≡ Some b)) (sym c.self.view_is) c.requires.item in
    let next = subst (λ (p : Placed). IsLeastLater p.base p.dues b) (sym c.self.view_is) c.requires.next in
    subst (λ (p : Placed). p.base < b) c.self.view_is (comes_next s.base b s.dues.items next (i.small id b asked.1))
