use Rattle.std.proofs.Common.{◌≡◌, add-one, arith}
use Rattle.script_printer.proofs.Puts.{puts_both}
use Rattle.kernel_texts.specs.Rows.{object_count}
use Rattle.kernel_shown.proofs.rows.put_object_row.Goals as goal

pub loop-number-preserved : goal.loop-number-preserved
loop-number-preserved g c = rw add-one (puts_both _ _ _ _ _ _ _ c.loop-number.invariant (rw c.object_of.ensures at c.put_object_facts.ensures.text))

pub returns : goal.returns
returns g c =
    let all : c.loop-number.number ≡ object_count c.args.row c.args.decls.now c.args.parts.now.machine = omega (arith, c.object_count-number-end.ensures) in
    rw all at c.loop-number.invariant
