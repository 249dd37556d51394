use Rattle.std.proofs.Common.{ℕ, List, Option, subst, sym}
use Rattle.parts_links.specs.Links.{list_at}
use Rattle.parts_wheel.specs.Slots.{Placed, IsEarly, IsLeastOf, IsLoneOf}
use Rattle.parts_wheel.specs.Moves.{IsDue}
use Rattle.parts_wheel.proofs.Holding.{no_later, least_at_lowest, lone_first}
use Rattle.parts_wheel.proofs.slots.Slots.least_far.Goals as goal

pub least_in-requires-clause-armed : goal.least_in-requires-clause-armed
least_in-requires-clause-armed c i h =
    let o = c.self.invariant.filed.only_later i c.in-Some.list h in (o.0, subst (λ (ds : List (Option ℕ)). IsDue ds i o.0) (sym c.deref.ensures.value) o.1)

pub least_in-requires-clause-early : goal.least_in-requires-clause-early
least_in-requires-clause-early c =
    let early = subst (λ (p : Placed). IsEarly p.dues c.args.early) (sym c.self.view_is) c.requires in
    subst (λ (ds : List (Option ℕ)). IsEarly ds c.args.early) (sym c.deref.ensures.value) early

pub returns-in-Some-clause-later : goal.returns-in-Some-clause-later
returns-in-Some-clause-later c =
    let s = c.self.inside in let i = c.self.invariant in
    let of = subst (λ (ds : List (Option ℕ)). IsLeastOf ds (list_at s.links.lists c.in-Some.list) c.least_in.result.tick) c.deref.ensures.value c.least_in.ensures.least in
    rw (← c.self.view_is) (least_at_lowest s.base s.dues.items s.links.lists s.occupied s.passed c.in-Some.list c.least_in.result.tick i.filed i.marked i.small c.in-Some.ensures.0 of)

pub returns-in-None-clause-later : goal.returns-in-None-clause-later
returns-in-None-clause-later c =
    let s = c.self.inside in let i = c.self.invariant in
    rw (← c.self.view_is) (no_later s.base s.dues.items s.links.lists s.occupied s.passed i.filed i.marked c.in-None.ensures)

pub returns-in-Some-clause-first : goal.returns-in-Some-clause-first
returns-in-Some-clause-first c =
    let s = c.self.inside in let i = c.self.invariant in
    let of = subst (λ (ds : List (Option ℕ)). IsLoneOf ds (list_at s.links.lists c.in-Some.list) c.least_in.result.tick c.least_in.result.first) c.deref.ensures.value c.least_in.ensures.lone in
    rw (← c.self.view_is) (lone_first s.base c.in-Some.list c.least_in.result.tick c.least_in.result.first s.dues.items s.links.lists s.passed i.filed of)
