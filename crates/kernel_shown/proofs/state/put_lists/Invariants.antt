use Rattle.kernel_texts.specs.Rows.{list_text}
use Rattle.script_printer.specs.Puts.{Puts}
use Rattle.kernel_texts.specs.Lines.{texts_below}
use Rattle.kernel_shown.proofs.state.put_lists.Given as goal

abbrev pub invariant-loop-below : goal.invariant-loop-below
invariant-loop-below g l = Puts g.K.Sink.text g.K.Sink.faults l.initial.out l.out (texts_below (list_text l.decls 255 l.parts.machine.lists) l.below)
