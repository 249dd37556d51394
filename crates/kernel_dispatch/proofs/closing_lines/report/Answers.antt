use Rattle.parts_tracer.proofs.Prints.{prints_both}
use Rattle.kernel_dispatch.proofs.closing_lines.report.Goals as goal

pub returns : goal.returns
returns g c = prints_both _ _ _ _ _ _ _ c.put_end.ensures c.put_reports.ensures
