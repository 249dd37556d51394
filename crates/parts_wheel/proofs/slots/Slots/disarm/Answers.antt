use Rattle.std.proofs.Common.{◌≡◌, ◌<◌, ◌≤◌, None, Some, length, subst, sym, ◌∙◌, arith}
use Rattle.std.proofs.Math.ListN.{length-set}
use Rattle.parts_wheel.specs.Slots.{Placed}
use Rattle.parts_wheel.specs.Dues.{due_of}
use Rattle.parts_wheel.proofs.Filing.{none_some}
use Rattle.parts_wheel.proofs.Holding.{disarmed_gone, disarmed_later, stands_later, still_small}
use Rattle.parts_wheel.proofs.slots.Slots.disarm.Goals as goal

pub invariant_of-self : goal.invariant_of-self
invariant_of-self c =
    let s = c.self.inside in let id = c.args.id in let i = c.self.invariant in
    let both = subst (λ (p : Placed). (id < length p.dues) × (due_of id p.dues ≡ Some c.args.due)) (sym c.self.view_is) c.requires in let asked = both.0 in let due = both.1 in
    let le : c.args.due ≤ s.base = omega (arith, c.if-get-self.true, c.get.ensures.value) in
    record {
      sized = i.sized;
      set = c.set.ensures.len ∙ i.set;
      few = omega (arith, i.few, length-set s.dues.items id None);
      marked = i.marked;
      filed = disarmed_gone s.base id c.args.due s.dues.items s.links.lists s.links.lists s.passed c.set.new.self i.filed due le c.set.ensures.bit;
      small = still_small s.dues.items id None i.small (λ d h. absurd (none_some h)) asked;
    }

pub take-requires-clause-node : goal.take-requires-clause-node
take-requires-clause-node c =
    let s = c.self.inside in let id = c.args.id in let i = c.self.invariant in
    let both = subst (λ (p : Placed). (id < length p.dues) × (due_of id p.dues ≡ Some c.args.due)) (sym c.self.view_is) c.requires in let asked = both.0 in let due = both.1 in
    let lt : s.base < c.args.due = omega (arith, c.if-get-self.false, c.get.ensures.value) in
    (omega (arith, asked, i.few), stands_later s.base id c.args.due s.dues.items s.links.lists s.links.lists s.passed s.passed i.filed due lt)

pub invariant_of-self-else-get-self : goal.invariant_of-self-else-get-self
invariant_of-self-else-get-self c =
    let s = c.self.inside in let id = c.args.id in let i = c.self.invariant in
    let both = subst (λ (p : Placed). (id < length p.dues) × (due_of id p.dues ≡ Some c.args.due)) (sym c.self.view_is) c.requires in let asked = both.0 in let due = both.1 in
    let lt : s.base < c.args.due = omega (arith, c.if-get-self.false, c.get.ensures.value) in
    record {
      sized = c.take.ensures.sized;
      set = i.set;
      few = omega (arith, i.few, length-set s.dues.items id None);
      marked = c.take.ensures.marked;
      filed = disarmed_later s.base id c.args.due s.dues.items s.links.lists c.take.new.links.lists s.passed s.passed i.filed due lt c.take.ensures.taken;
      small = still_small s.dues.items id None i.small (λ d h. absurd (none_some h)) asked;
    }
