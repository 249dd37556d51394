use Rattle.std.proofs.Common.{◌≤◌, ◌*◌, ◌^◌, ◌≡◌, ◌<◌, None, Some, length, subst, sym, arith}
use Rattle.std.proofs.Math.ListN.{length-set}
use Rattle.parts_wheel.specs.Slots.{Placed}
use Rattle.parts_wheel.specs.Dues.{due_of}
use Rattle.parts_wheel.specs.Moves.{IsFiled, IsNoted}
use Rattle.parts_wheel.proofs.Holding.{armed, off_lists, still_small}
use Rattle.parts_wheel.proofs.Filing.{list_small}
use Rattle.parts_wheel.proofs.Stands.{filed_mark}
use Rattle.parts_wheel.proofs.slots.Slots.arm_far.Goals as goal

pub file-requires-clause-node : goal.file-requires-clause-node
file-requires-clause-node c =
    let s = c.self.inside in
    let asked = subst (λ (p : Placed). (c.args.id < length p.dues) × (due_of c.args.id p.dues ≡ None)) (sym c.self.view_is) c.requires in (
      omega (arith, asked.0, c.self.invariant.few),
      c.get.ensures.range,
      off_lists s.base c.args.id 0 s.dues.items s.links.lists s.links.lists s.passed s.passed c.self.invariant.filed asked.1 asked.0,
    )

pub invariant_of-self : goal.invariant_of-self
invariant_of-self c =
    let s = c.self.inside in let d = c.args.due in let i = c.self.invariant in
    let asked = subst (λ (p : Placed). (c.args.id < length p.dues) × (due_of c.args.id p.dues ≡ None)) (sym c.self.view_is) c.requires in
    let filed = subst (λ e. IsFiled s.base c.args.id e s.links.lists c.file.new.links.lists s.passed c.file.new.passed) c.get.ensures.value c.file.ensures.filed in
    let noted = subst (λ e. IsNoted s.base e s.occupied c.file.new.occupied) c.get.ensures.value c.file.ensures.noted in
    let small : d ≤ 3 * 10 ^ 18 = omega (arith, c.get.ensures.range, c.get.ensures.value) in
    record {
      sized = c.file.ensures.sized.0;
      set = c.file.ensures.sized.1;
      few = omega (arith, i.few, length-set s.dues.items c.args.id (Some d));
      marked = λ k. filed_mark s.base c.args.id d k s.links.lists c.file.new.links.lists s.passed c.file.new.passed s.occupied c.file.new.occupied
          (λ lt. let l = list_small s.base d lt small in omega (arith, l, i.sized.lists)) filed noted (i.marked k);
      filed = armed s.base c.args.id d s.dues.items s.links.lists c.file.new.links.lists s.passed c.file.new.passed i.filed asked.1 asked.0
          (λ lt. let l = list_small s.base d lt small in omega (arith, l, i.sized.lists)) filed;
      small = still_small s.dues.items c.args.id (Some d) i.small (λ e h. let q : d ≡ e = cc in omega (arith, q, small)) asked.0;
    }
