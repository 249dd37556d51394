use Rattle.std.proofs.Common.{ℕ}
use Rattle.kernel_texts.specs.Rows.{object_facts}
use Rattle.script_printer.specs.Puts.{Puts}
use Rattle.kernel_texts.specs.Lines.{facts_text, texts_below}
use Rattle.kernel_shown.proofs.rows.put_object_row.Given as goal

abbrev pub invariant-loop-number : goal.invariant-loop-number
invariant-loop-number g l = Puts g.K.Sink.text g.K.Sink.faults l.initial.out l.out (texts_below (λ (k : ℕ). facts_text l.decls (object_facts l.row l.parts.machine k)) l.number)
