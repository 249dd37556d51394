use Rattle.std.proofs.Common.{List, subst, ◌∙◌}
use Rattle.words_script.specs.declared.decl.Decl.{Decl}
use Rattle.script_printer.specs.Puts.{Puts}
use Rattle.script_printer.proofs.Puts.{puts_both}
use Rattle.kernel_texts.specs.Rows.{objects_text}
use Rattle.kernel_shown.proofs.rows.put_objects.Goals as goal

pub returns : goal.returns
returns g c =
    subst (λ (decls : List Decl). Puts g.K.Sink.text g.K.Sink.faults c.args.out.now c.put_object_row-9.new.out (objects_text decls c.args.parts.now.machine)) (c.of.ensures ∙ c.items.ensures)
    (puts_both _ _ _ _ _ _ _ (puts_both _ _ _ _ _ _ _ (puts_both _ _ _ _ _ _ _ (puts_both _ _ _ _ _ _ _ (puts_both _ _ _ _ _ _ _ (puts_both _ _ _ _ _ _ _ (puts_both _ _ _ _ _ _ _ (puts_both _ _ _ _ _ _ _ c.put_object_row.ensures c.put_object_row-2.ensures) c.put_object_row-3.ensures) c.put_object_row-4.ensures) c.put_object_row-5.ensures) c.put_object_row-6.ensures) c.put_object_row-7.ensures) c.put_object_row-8.ensures) c.put_object_row-9.ensures)
