use Rattle.kernel_texts.proofs.Keeping.{whole_text}
use Rattle.kernel_seen.specs.FactSeen.{fact_seen}
use Rattle.kernel_looks.proofs.FactsSeen.{tells_only}
use Rattle.kernel_looks.proofs.Looking.{went_printed}
use Rattle.kernel_looks.proofs.look.tell_object_facts.Goals as goal

pub returns-clause-kept : goal.returns-clause-kept
returns-clause-kept c = went_printed _ _ _ _ c.clear.ensures _ _ _ c.print_object_facts-failed.ensures.text c.keep.ensures.over

pub returns-clause-memory : goal.returns-clause-memory
returns-clause-memory c =
    c.keep.ensures.seen c.args.decls.now c.requires.memory
    (λ good. tells_only c.args.decls.now _ _ (fact_seen c.see_object.result) c.see_object.ensures
    (whole_text c.args.next.now c.clear.new.self _ _ c.clear.ensures _ c.print_object_facts-failed.ensures.text good) c.print_object_facts-failed.ensures.short)
