use Rattle.script_printer.proofs.Puts.{puts_both}
use Rattle.script_printer.proofs.printer.Printer.put_numbered.Goals as goal

pub returns : goal.returns
returns g c = puts_both _ _ _ _ _ _ _ c.put_number.ensures.text (puts_both _ _ _ _ _ _ _ c.put.ensures c.put-2.ensures)
