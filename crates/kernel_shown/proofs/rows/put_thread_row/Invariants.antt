use Rattle.std.proofs.Common.{ℕ}
use Rattle.kernel_texts.specs.Rows.{thread_fact_of}
use Rattle.script_printer.specs.Puts.{Puts}
use Rattle.kernel_texts.specs.Lines.{fact_text, texts_below}
use Rattle.kernel_shown.proofs.rows.put_thread_row.Given as goal

abbrev pub invariant-loop-number : goal.invariant-loop-number
invariant-loop-number g l = Puts g.K.Sink.text g.K.Sink.faults l.initial.out l.out (texts_below (λ (t : ℕ). fact_text l.decls (thread_fact_of l.row l.parts.machine t)) l.number)
