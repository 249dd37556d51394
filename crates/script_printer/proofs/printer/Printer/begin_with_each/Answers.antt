use Rattle.std.proofs.Common.{arith}
use Rattle.script_printer.proofs.Puts.{puts_both}
use Rattle.script_printer.proofs.Words.{joined_first, joined_within}
use Rattle.script_printer.proofs.printer.Printer.begin_with_each.Goals as goal

pub returns-in-len1-up-clause-text : goal.returns-in-len1-up-clause-text
returns-in-len1-up-clause-text g c =
    let first = joined_first c.args.words.now c.first-item.result c.first-item.result (omega arith) c.first-item.is in
    rw (← first) (puts_both _ _ _ _ _ _ _ c.put_word.ensures.text c.put_each.ensures.text)

pub returns-in-len1-up-clause-short : goal.returns-in-len1-up-clause-short
returns-in-len1-up-clause-short g c =
    joined_within c.args.words.now c.first-item.result c.first-item.result (omega arith) c.first-item.is c.put_word.ensures.short c.put_each.ensures.short
