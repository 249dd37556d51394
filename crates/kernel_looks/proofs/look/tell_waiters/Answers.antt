use Rattle.std.proofs.Common.{◌∙◌, ap, subst, sym}
use Rattle.rules_facts.specs.Objects.{in_service_order}
use Rattle.kernel_lines.specs.InLine.{stands_in}
use Rattle.kernel_texts.specs.Lines.{fact_text}
use Rattle.kernel_texts.specs.Short.{HasShortText}
use Rattle.kernel_lines.specs.declared.waiters.Line.{Line}
use Rattle.kernel_texts.proofs.Keeping.{whole_text}
use Rattle.kernel_seen.specs.FactSeen.{fact_seen}
use Rattle.kernel_seen.specs.KeptLines.{line_fact}
use Rattle.kernel_looks.proofs.FactsSeen.{tells_seen}
use Rattle.kernel_looks.proofs.QueueLines.{waiters_are_short, waiters_told}
use Rattle.kernel_looks.proofs.Looking.{went_printed}
use Rattle.kernel_looks.proofs.look.tell_waiters.Goals as goal

pub returns-clause-kept : goal.returns-clause-kept
returns-clause-kept c = went_printed _ _ _ _ c.clear.ensures _ _ _ c.print_waiters-failed.ensures c.keep.ensures.over

pub returns-clause-memory : goal.returns-clause-memory
returns-clause-memory c =
    let decls = c.args.decls.now in
    let m = c.args.parts.now.machine in
    let told = ap (λ (l : Line). fact_text decls (line_fact l (in_service_order m (stands_in l)))) c.queue_line-line.ensures ∙ waiters_told decls m c.args.q c.args.to_send in
    c.keep.ensures.seen decls c.requires.memory
    (λ good. tells_seen decls _ _ (fact_seen c.see_line.result) c.see_line.ensures
    (whole_text c.args.next.now c.clear.new.self _ _ c.clear.ensures _ c.print_waiters-failed.ensures good ∙ sym told)
    (subst (λ (l : Line). HasShortText decls (line_fact l (in_service_order m (stands_in l)))) (sym c.queue_line-line.ensures) (waiters_are_short decls m c.args.q c.args.to_send)))
