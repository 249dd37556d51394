use Rattle.std.proofs.Common.{◌*◌, ◌≤◌, ◌^◌, ℕ, List, Option, subst, sym, arith}
use Rattle.parts_wheel.specs.Slots.{Placed, IsLeastLater, AreSmall}
use Rattle.parts_wheel.specs.Moves.{AreToRefile, AreRefiling}
use Rattle.parts_wheel.proofs.Filing.{list_small}
use Rattle.parts_wheel.proofs.Holding.{goes_on, some_held, target_is, empty_below, nodes_to_refile, went_on}
use Rattle.parts_wheel.proofs.slots.Slots.advance.Goals as goal

pub refile-requires-clause-sized : goal.refile-requires-clause-sized
refile-requires-clause-sized c =
    let s = c.self.inside in let to = c.args.to in let i = c.self.invariant in
    let asked = subst (λ (p : Placed). IsLeastLater p.base p.dues to × (to ≤ 3 * 10 ^ 18)) (sym c.self.view_is) c.requires in
    let t = target_is s.base to c.in-Some.target s.dues.items s.links.lists s.occupied s.passed i.filed i.marked asked.0 asked.1 c.in-Some.ensures.0 in
    let l = list_small s.base to (goes_on s.base to c.in-Some.target s.dues.items s.links.lists s.occupied s.passed i.filed i.marked asked.0 asked.1) asked.1 in
    (i.sized, i.set, omega (arith, t, l))

pub refile-requires-clause-nodes : goal.refile-requires-clause-nodes
refile-requires-clause-nodes c =
    let s = c.self.inside in let to = c.args.to in let i = c.self.invariant in let target = c.in-Some.target in
    let asked = subst (λ (p : Placed). IsLeastLater p.base p.dues to × (to ≤ 3 * 10 ^ 18)) (sym c.self.view_is) c.requires in
    let t = target_is s.base to target s.dues.items s.links.lists s.occupied s.passed i.filed i.marked asked.0 asked.1 c.in-Some.ensures.0 in
    let lt = goes_on s.base to target s.dues.items s.links.lists s.occupied s.passed i.filed i.marked asked.0 asked.1 in
    let empty = empty_below s.base to target s.dues.items s.links.lists s.occupied s.passed i.filed i.marked asked.0 asked.1 c.in-Some.ensures.0 in
    subst (λ (ds : List (Option ℕ)). AreToRefile target to ds s.links.lists × AreSmall ds) (sym c.deref.ensures.value) (
      nodes_to_refile s.base to target s.dues.items s.links.lists s.links.lists s.passed s.passed t lt i.small i.filed empty,
      i.small,
    )

pub invariant_of-self : goal.invariant_of-self
invariant_of-self c =
    let s = c.self.inside in let to = c.args.to in let i = c.self.invariant in let target = c.in-Some.target in
    let asked = subst (λ (p : Placed). IsLeastLater p.base p.dues to × (to ≤ 3 * 10 ^ 18)) (sym c.self.view_is) c.requires in
    let t = target_is s.base to target s.dues.items s.links.lists s.occupied s.passed i.filed i.marked asked.0 asked.1 c.in-Some.ensures.0 in
    let lt = goes_on s.base to target s.dues.items s.links.lists s.occupied s.passed i.filed i.marked asked.0 asked.1 in
    let empty = empty_below s.base to target s.dues.items s.links.lists s.occupied s.passed i.filed i.marked asked.0 asked.1 c.in-Some.ensures.0 in
    let done = subst (λ (ds : List (Option ℕ)). AreRefiling target to ds s.links.lists c.refile.new.links.lists s.passed c.refile.new.passed)
    c.deref.ensures.value c.refile.ensures.refiled in
    record {
      sized = c.refile.ensures.sized.0;
      set = c.refile.ensures.sized.1;
      few = i.few;
      marked = c.refile.ensures.marked;
      filed = went_on s.base to target s.dues.items s.links.lists c.refile.new.links.lists s.passed c.refile.new.passed t lt i.small i.filed empty done c.refile.ensures.empty;
      small = i.small;
    }

pub invariant_of-self-in_default : goal.invariant_of-self-in_default
invariant_of-self-in_default c =
    let s = c.self.inside in let to = c.args.to in let i = c.self.invariant in
    let asked = subst (λ (p : Placed). IsLeastLater p.base p.dues to × (to ≤ 3 * 10 ^ 18)) (sym c.self.view_is) c.requires in
    absurd (some_held s.base to 0 s.dues.items s.links.lists s.occupied s.passed i.filed i.marked asked.0 asked.1 c.in_default.ensures)
