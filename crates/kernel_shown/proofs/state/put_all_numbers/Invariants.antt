use Rattle.std.proofs.Common.{flat_map, ℕ}
use Rattle.rules_facts.specs.Numbers.{thread_numbers_told}
use Rattle.script_printer.specs.Puts.{Puts}
use Rattle.kernel_texts.specs.Lines.{number_text, texts_below}
use Rattle.kernel_shown.proofs.state.put_all_numbers.Given as goal

abbrev pub invariant-loop-number : goal.invariant-loop-number
invariant-loop-number g l = Puts g.K.Sink.text g.K.Sink.faults l.initial.out l.out (texts_below (λ (t : ℕ). flat_map (number_text l.decls) (thread_numbers_told l.parts.machine t)) l.number)
