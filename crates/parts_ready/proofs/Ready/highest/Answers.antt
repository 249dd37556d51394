use Rattle.std.proofs.Common.{subst, ◌∙◌}
use Rattle.rules_lists.specs.Lists.{AreReadyLists}
use Rattle.parts_ready.proofs.Places.{head_known}
use Rattle.parts_ready.proofs.Heads.{named_given}
use Rattle.parts_ready.proofs.Ready.highest.Goals as goal

pub returns-clause-value : goal.returns-clause-value
returns-clause-value c = rw (← c.self.view_is) (named_given c.try_new.result c.self.inside.head c.try_new.ensures ∙ c.self.invariant.head)

pub returns-clause-known : goal.returns-clause-known
returns-clause-known c = head_known c.args.self.now c.try_new.result (subst AreReadyLists c.self.view_is c.self.invariant.lists) (returns-clause-value c)
