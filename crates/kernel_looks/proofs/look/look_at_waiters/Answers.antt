use Rattle.std.proofs.Common.{◌∙◌, ap, refl}
use Rattle.rules_facts.specs.Objects.{in_service_order}
use Rattle.kernel_lines.specs.InLine.{stands_in}
use Rattle.kernel_texts.specs.Lines.{fact_text}
use Rattle.kernel_lines.specs.declared.waiters.Line.{Line}
use Rattle.kernel_seen.specs.KeptLines.{line_fact}
use Rattle.kernel_looks.specs.Desk.{last_seen}
use Rattle.kernel_looks.proofs.FactsSeen.{told_here, went_on_same}
use Rattle.kernel_looks.proofs.QueueLines.{waiters_told}
use Rattle.kernel_looks.proofs.Looking.{went_nothing}
use Rattle.kernel_looks.proofs.look.look_at_waiters.Goals as goal

pub returns-then-queue_tells_nothing-clause-kept : goal.returns-then-queue_tells_nothing-clause-kept
returns-then-queue_tells_nothing-clause-kept c = went_nothing _ _ _ _ (c.queue_tells_nothing.ensures c.if-queue_tells_nothing.true c.args.decls.now) c.go_over_nothing.ensures.went

pub returns-then-is_line_as_seen-clause-kept : goal.returns-then-is_line_as_seen-clause-kept
returns-then-is_line_as_seen-clause-kept c =
    let decls = c.args.decls.now in
    let m = c.args.parts.now.machine in
    let e = c.if-is_line_as_seen.true in
    let here = told_here decls c.args.desk.now (last_seen c.args.desk.now) _ refl (c.is_line_as_seen.ensures.some e) (c.is_line_as_seen.ensures.same e) c.requires.memory in
    let told = ap (λ (l : Line). fact_text decls (line_fact l (in_service_order m (stands_in l)))) c.queue_line-line.ensures ∙ waiters_told decls m c.args.q c.args.to_send in
    went_on_same _ _ _ _ _ (here.told ∙ told) c.go_over_same.ensures.went
