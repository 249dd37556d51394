use Rattle.std.proofs.Common.{sym, ◌∙◌}
use Rattle.parts_ready.proofs.Nodes.{prio_none, prio_at, prio_given}
use Rattle.parts_ready.proofs.Ready.prio_of.Goals as goal

pub returns-in-Some : goal.returns-in-Some
returns-in-Some c =
    let lists = c.self.inside.links.lists in
    rw (← c.self.view_is, ← c.get.ensures.value) (prio_given c.try_new.result c.in-Some.place c.try_new.ensures
    ∙ sym (prio_at 1 c.get.result c.in-Some.place lists (c.self.invariant.lists.once c.get.result) c.in-Some.ensures.1))

pub returns-in-None : goal.returns-in-None
returns-in-None c = rw (← c.self.view_is, ← c.get.ensures.value) (sym (prio_none 1 c.get.result c.self.inside.links.lists c.in-None.ensures))
