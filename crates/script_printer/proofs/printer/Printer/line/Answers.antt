use Rattle.script_printer.proofs.Puts.{puts_both}
use Rattle.script_printer.proofs.printer.Printer.line.Goals as goal

pub returns-then-not-have_room-clause-text : goal.returns-then-not-have_room-clause-text
returns-then-not-have_room-clause-text g c = puts_both _ _ _ _ _ _ _ c.begin_with_each.ensures.text c.end.ensures
