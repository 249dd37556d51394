use Rattle.std.proofs.Common.{◌≡◌, ◌<◌, ℕ, List, Option, None, Some, length, slice_set, refl, subst, sym, arith}
use Rattle.std.proofs.Math.ListN.{length-set}
use Rattle.parts_wheel.specs.Slots.{Placed, IsLeastLater, AreSmall, list_for}
use Rattle.parts_wheel.specs.Dues.{due_of}
use Rattle.parts_wheel.specs.Moves.{AreToRefile, AreRefiling}
use Rattle.parts_wheel.proofs.Filing.{none_some, list_small}
use Rattle.parts_wheel.proofs.Moving.{refiling_start}
use Rattle.parts_wheel.proofs.Holding.{still_small, stands_later, comes_next, next_to_refile, next_left}
use Rattle.parts_wheel.proofs.slots.Slots.disarm_next.Goals as goal

pub take-requires-clause-node : goal.take-requires-clause-node
take-requires-clause-node c =
    let s = c.self.inside in let id = c.args.id in let d = c.args.due in let i = c.self.invariant in
    let asked = subst (λ (p : Placed). (id < length p.dues) × (due_of id p.dues ≡ Some d)) (sym c.self.view_is) c.requires.item in
    let next = subst (λ (p : Placed). IsLeastLater p.base p.dues d) (sym c.self.view_is) c.requires.next in
    let after = comes_next s.base d s.dues.items next (i.small id d asked.1) in
    (omega (arith, asked.0, i.few), stands_later s.base id d s.dues.items s.links.lists s.links.lists s.passed s.passed i.filed asked.1 after)

pub refile-requires-clause-sized : goal.refile-requires-clause-sized
refile-requires-clause-sized c =
    let s = c.self.inside in let id = c.args.id in let d = c.args.due in let i = c.self.invariant in
    let asked = subst (λ (p : Placed). (id < length p.dues) × (due_of id p.dues ≡ Some d)) (sym c.self.view_is) c.requires.item in
    let next = subst (λ (p : Placed). IsLeastLater p.base p.dues d) (sym c.self.view_is) c.requires.next in
    let small = i.small id d asked.1 in let after = comes_next s.base d s.dues.items next small in
    let at = c.in-Some.ensures.left (list_for s.base d) (i.filed.later id d asked.1 after) in
    let l = list_small s.base d after small in (c.take.ensures.sized, i.set, omega (arith, at, l))

pub refile-requires-clause-nodes : goal.refile-requires-clause-nodes
refile-requires-clause-nodes c =
    let s = c.self.inside in let id = c.args.id in let d = c.args.due in let i = c.self.invariant in let mid = c.take.new.links.lists in
    let asked = subst (λ (p : Placed). (id < length p.dues) × (due_of id p.dues ≡ Some d)) (sym c.self.view_is) c.requires.item in
    let next = subst (λ (p : Placed). IsLeastLater p.base p.dues d) (sym c.self.view_is) c.requires.next in
    let after = comes_next s.base d s.dues.items next (i.small id d asked.1) in
    let at = c.in-Some.ensures.left (list_for s.base d) (i.filed.later id d asked.1 after) in
    subst (λ (ds : List (Option ℕ)). AreToRefile c.in-Some.list d ds mid × AreSmall ds) (sym c.deref.ensures.value) (
      next_to_refile s.base id d s.dues.items s.links.lists mid mid s.passed s.passed i.filed asked.1 i.small next c.take.ensures.taken c.in-Some.list at,
      still_small s.dues.items id None i.small (λ e h. absurd (none_some h)) asked.0,
    )

pub invariant_of-self : goal.invariant_of-self
invariant_of-self c =
    let s = c.self.inside in let id = c.args.id in let d = c.args.due in let i = c.self.invariant in let mid = c.take.new.links.lists in let new = c.refile.new.links.lists in
    let asked = subst (λ (p : Placed). (id < length p.dues) × (due_of id p.dues ≡ Some d)) (sym c.self.view_is) c.requires.item in
    let next = subst (λ (p : Placed). IsLeastLater p.base p.dues d) (sym c.self.view_is) c.requires.next in
    let after = comes_next s.base d s.dues.items next (i.small id d asked.1) in
    let at = c.in-Some.ensures.left (list_for s.base d) (i.filed.later id d asked.1 after) in
    let done = subst (λ (ds : List (Option ℕ)). AreRefiling c.in-Some.list d ds mid new s.passed c.refile.new.passed) c.deref.ensures.value c.refile.ensures.refiled in
    record {
      sized = c.refile.ensures.sized.0;
      set = c.refile.ensures.sized.1;
      few = omega (arith, i.few, length-set s.dues.items id None);
      marked = c.refile.ensures.marked;
      filed = next_left s.base id d s.dues.items s.links.lists mid new s.passed c.refile.new.passed i.filed asked.1 i.small next c.take.ensures.taken c.in-Some.list at done c.refile.ensures.empty;
      small = still_small s.dues.items id None i.small (λ e h. absurd (none_some h)) asked.0;
    }

pub invariant_of-self-in_default : goal.invariant_of-self-in_default
invariant_of-self-in_default c =
    let s = c.self.inside in let id = c.args.id in let d = c.args.due in let i = c.self.invariant in let mid = c.take.new.links.lists in
    let asked = subst (λ (p : Placed). (id < length p.dues) × (due_of id p.dues ≡ Some d)) (sym c.self.view_is) c.requires.item in
    let next = subst (λ (p : Placed). IsLeastLater p.base p.dues d) (sym c.self.view_is) c.requires.next in
    let after = comes_next s.base d s.dues.items next (i.small id d asked.1) in
    let k = list_for s.base d in
    record {
      sized = c.take.ensures.sized;
      set = i.set;
      few = omega (arith, i.few, length-set s.dues.items id None);
      marked = c.take.ensures.marked;
      filed = next_left s.base id d s.dues.items s.links.lists mid mid s.passed s.passed i.filed asked.1 i.small next c.take.ensures.taken k refl
          (refiling_start k d (slice_set s.dues.items id None) mid s.passed) (c.in_default.ensures.left k (i.filed.later id d asked.1 after));
      small = still_small s.dues.items id None i.small (λ e h. absurd (none_some h)) asked.0;
    }
