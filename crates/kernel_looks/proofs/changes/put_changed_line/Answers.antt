use Rattle.std.proofs.Common.{◌≡◌, arith, false}
use Rattle.std.specs.Str.{bytes_eq}
use Rattle.kernel_texts.proofs.Puts.{puts_as}
use Rattle.kernel_texts.specs.Changed.{behind_subject}
use Rattle.kernel_looks.proofs.Changing.{line_changes}
use Rattle.kernel_looks.proofs.changes.put_changed_line.Goals as goal

pub returns : goal.returns
returns g c =
    let about = c.args.about.now in
    let differ : bytes_eq (behind_subject about c.args.before.now) (behind_subject about c.args.line.now) ≡ false =
    grind (arith, c.behind_subject.ensures, c.behind_subject-2.ensures, c.eq.ensures, c.if-eq.false) in
    puts_as _ _ _ _ _ _ (line_changes c.args.now about c.args.before.now c.args.line.now differ) c.put_numbered_line.ensures
