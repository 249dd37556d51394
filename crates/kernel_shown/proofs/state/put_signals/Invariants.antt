use Rattle.std.proofs.Common.{ℕ}
use Rattle.rules_facts.specs.Signals.{signal_fact}
use Rattle.kernel_texts.specs.Picked.{left_in}
use Rattle.script_printer.specs.Puts.{Puts}
use Rattle.kernel_texts.specs.Lines.{fact_text, texts_below}
use Rattle.kernel_shown.proofs.state.put_signals.Given as goal

abbrev pub invariant-loop-signal : goal.invariant-loop-signal
invariant-loop-signal g l = Puts g.K.Sink.text g.K.Sink.faults l.initial.out l.out (texts_below (λ (s : ℕ). fact_text l.decls (signal_fact (left_in l.out_of_it l.parts.machine) s)) l.signal)
