use Rattle.std.proofs.Common.{take}
use Rattle.parts_tracer.specs.Prints.{Prints}
use Rattle.rules_machine.specs.Machine.{reports}
use Rattle.kernel_dispatch.proofs.closing_lines.put_reports.Given as goal

abbrev pub invariant-loop-number : goal.invariant-loop-number
invariant-loop-number g l = Prints g.K.Sink.text g.K.Sink.faults l.initial.out l.out (reports l.fn.p.names 0 (take l.number l.fn.p.machine.threads))
