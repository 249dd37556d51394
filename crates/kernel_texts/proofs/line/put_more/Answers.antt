use Rattle.std.proofs.Common.{◌<◌, length, map}
use Rattle.script_writer.specs.Line.{spelled}
use Rattle.script_printer.proofs.Puts.{puts_both}
use Rattle.kernel_texts.proofs.Lines.{more_begun, more_later, some_spelled}
use Rattle.kernel_texts.proofs.Puts.{puts_as}
use Rattle.kernel_texts.proofs.line.put_more.Goals as goal
use Rattle.kernel_texts.proofs.line.put_more.Goals.{then-not-is_begun, else-not-is_begun}

pub returns-clause-text : goal.returns-clause-text
returns-clause-text g c =
    let about = map spelled c.args.subject.now in let more = map spelled c.args.words.now in
    let some : 0 < length about = some_spelled spelled c.args.subject.now c.requires.some in
    elim c.if-not-is_begun.branch [
      | then-not-is_begun w ↦
          puts_as _ _ _ _ _ _ (more_begun about more c.args.is_begun some w.if-not-is_begun.true) (puts_both _ _ _ _ _ _ _ w.begin.ensures.text (rw w.out-is at c.words.ensures.text))
      | else-not-is_begun w ↦ puts_as _ _ _ _ _ _ (more_later about more c.args.is_begun w.if-not-is_begun.false) (rw w.out-is at c.words.ensures.text)
    ]
