use Rattle.std.proofs.Common.{◌≡◌, length, sym, ◌∙◌, ap, subst, Some, false}
use Rattle.std.specs.Prelude.{◌⊎◌}
use Rattle.parts_tracer.specs.Printed.{Printed}
use Rattle.rules_machine.specs.Machine.{trace}
use Rattle.tool_check.specs.Comparison.{comparison}
use Rattle.tool_check.specs.Held.{Held}
use Rattle.tool_check.proofs.Enough.{held_is_enough}
use Rattle.tool_runs.proofs.check.compare_in.Goals as goal

-- what the room holds tells what differs, as the whole trace does
pub returns : goal.returns
returns g c =
    let sink = c.print_run.new.sink in
    let due = trace c.args.script.now c.args.horizon in
    let printed = subst (λ (h : Held). Printed (record { failed = false; text = Some h.text; faults = h.faults })
    (record { failed = c.in_ok-print_run.field-0; text = Some sink.text; faults = sink.faults }) due) c.in_ok-kept.ensures c.in_ok-print_run.ensures.printed in
    let held : c.text.result.now ≡ sink.text = c.text.ensures.value in
    let full : (sink.faults ≡ 0) ⊎ (length sink.text ≡ c.args.room) = rw (sym held, c.requires.known) c.text.ensures.full in
    c.compare.ensures ∙ (ap (λ t. comparison c.args.have.now t) held ∙ held_is_enough _ _ _ _ printed c.args.have.now c.args.room full c.requires.enough)
