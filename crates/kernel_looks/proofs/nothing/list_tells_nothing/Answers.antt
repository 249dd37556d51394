use Rattle.std.proofs.Common.{sym, ◌∙◌}
use Rattle.kernel_looks.proofs.NothingTold.{list_nothing}
use Rattle.kernel_looks.proofs.nothing.list_tells_nothing.Goals as goal

pub returns-in-None : goal.returns-in-None
returns-in-None c e = list_nothing c.args.p _ (sym c.thread_on_list.ensures.thread ∙ c.in-None.is)
