use Rattle.std.proofs.Common.{sym, ◌∙◌, ap, arith}
use Rattle.script_writer.specs.Words.{is_nil}
use Rattle.script_writer.proofs.Signals.{below_without, text_with, first_with}
use Rattle.script_writer.proofs.line.add_each_signal.Goals as goal
use Rattle.script_writer.proofs.line.add_each_signal.Goals.{then-contains, else-contains}

pub loop-sig-preserved : goal.loop-sig-preserved
loop-sig-preserved c =
    let before = c.loop-sig.invariant in
    elim c.if-contains.branch [
      | then-contains w ↦
          (let has = sym c.contains.ensures ∙ w.if-contains.true in
          record {
            text = rw w.line-is (text_with _ _ _ _ _ _ before.text before.first w.add_listed.ensures.text has);
            first = w.is_first-is ∙ first_with _ _ has;
            bound = rw w.line-is (omega arith);
          })
      | else-contains w ↦
          (let without = below_without _ _ (sym c.contains.ensures ∙ w.if-contains.false) in
          record {
            text = rw (w.line-is, without) before.text;
            first = w.is_first-is ∙ before.first ∙ sym (ap is_nil without);
            bound = rw w.line-is (omega arith);
          })
    ]
