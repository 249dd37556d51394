use Rattle.std.proofs.Common.{◌<◌, ℕ, arith, length, subst, zero-add}
use Rattle.parts_tracer.specs.Prints.{Prints}
use Rattle.words_trace.specs.Text.{report_line}
use Rattle.rules_machine.specs.Machine.{report_of}
use Rattle.parts_tracer.proofs.Prints.{prints_both}
use Rattle.rules_machine.specs.Threads.{no_thread, thread_at}
use Rattle.kernel_dispatch.proofs.Reports.{reports_more}
use Rattle.kernel_dispatch.proofs.closing_lines.put_reports.Goals as goal

pub loop-number-preserved : goal.loop-number-preserved
loop-number-preserved g c =
    let k = c.args.p.now in
    let lt : c.loop-number.number < length k.machine.threads = omega (arith, c.loop-number-test.true, c.count-number-end.ensures.threads) in
    let more = reports_more k.names 0 c.loop-number.number k.machine.threads no_thread lt in
    let put = subst (λ (t : ℕ). Prints g.K.Sink.text g.K.Sink.faults c.loop-number.out c.put_report.new.out (report_line k.names t (report_of (thread_at k.machine t)))) c.tid-t.ensures c.put_report.ensures in
    rw (more, zero-add) (prints_both _ _ _ _ _ _ _ c.loop-number.invariant put)
