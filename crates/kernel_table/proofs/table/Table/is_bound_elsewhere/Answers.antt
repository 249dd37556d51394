use Rattle.std.proofs.Common.{}
use Rattle.kernel_table.proofs.WaitsElsewhere.{bound_elsewhere}
use Rattle.kernel_table.proofs.table.Table.is_bound_elsewhere.Goals as goal

pub returns : goal.returns
returns c =
    let s = c.self.inside in
    rw (← c.self.view_is) (bound_elsewhere c.args.c c.args.k s.threads s.chain s.waits c.self.invariant.tied c.is_bound_elsewhere.result c.is_bound_elsewhere.ensures.found c.is_bound_elsewhere.ensures.none)
