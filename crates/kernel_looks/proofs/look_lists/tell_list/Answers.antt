use Rattle.kernel_texts.proofs.Keeping.{whole_text}
use Rattle.kernel_texts.proofs.Modest.{list_short}
use Rattle.kernel_seen.specs.FactSeen.{fact_seen}
use Rattle.kernel_looks.proofs.FactsSeen.{tells_seen}
use Rattle.kernel_looks.proofs.Looking.{went_nothing, went_printed}
use Rattle.kernel_looks.proofs.look_lists.tell_list.Goals as goal

pub returns-clause-kept : goal.returns-clause-kept
returns-clause-kept c = went_printed _ _ _ _ c.clear.ensures _ _ _ c.print_list-failed.ensures c.keep.ensures.over

pub returns-clause-memory : goal.returns-clause-memory
returns-clause-memory c =
    c.keep.ensures.seen c.args.decls.now c.requires.memory
    (λ good. tells_seen c.args.decls.now _ _ (fact_seen c.see_list.result) c.see_list.ensures.list
    (whole_text c.args.next.now c.clear.new.self _ _ c.clear.ensures _ c.print_list-failed.ensures good) (list_short c.args.decls.now c.args.p _ c.see_list.ensures.range))

pub returns-then-list_tells_nothing-clause-kept : goal.returns-then-list_tells_nothing-clause-kept
returns-then-list_tells_nothing-clause-kept c = went_nothing _ _ _ _ (c.list_tells_nothing.ensures c.if-list_tells_nothing.true c.args.decls.now) c.go_over_nothing.ensures.went
