use Rattle.kernel_texts.proofs.Keeping.{whole_text}
use Rattle.kernel_seen.specs.FactSeen.{fact_seen}
use Rattle.kernel_looks.proofs.FactsSeen.{tells_seen}
use Rattle.kernel_looks.proofs.Looking.{went_nothing, went_printed}
use Rattle.kernel_looks.proofs.NothingTold.{nothing_short}
use Rattle.kernel_looks.proofs.look_threads.look_at_thread_fact.Goals as goal

pub returns-clause-kept : goal.returns-clause-kept
returns-clause-kept c = went_printed _ _ _ _ c.clear.ensures _ _ _ c.print_thread_fact-failed.ensures.text c.keep.ensures.over

pub returns-clause-memory : goal.returns-clause-memory
returns-clause-memory c =
    c.keep.ensures.seen c.args.decls.now c.requires.memory
    (λ good. tells_seen c.args.decls.now _ _ (fact_seen c.see_thread.result) c.see_thread.ensures
    (whole_text c.args.next.now c.clear.new.self _ _ c.clear.ensures _ c.print_thread_fact-failed.ensures.text good) c.print_thread_fact-failed.ensures.short)

pub returns-then-thread_tells_nothing-clause-kept : goal.returns-then-thread_tells_nothing-clause-kept
returns-then-thread_tells_nothing-clause-kept c = went_nothing _ _ _ _ (c.thread_tells_nothing.ensures c.if-thread_tells_nothing.true c.args.decls.now) c.go_over_nothing.ensures.went

pub returns-then-thread_tells_nothing-clause-short : goal.returns-then-thread_tells_nothing-clause-short
returns-then-thread_tells_nothing-clause-short c = nothing_short c.args.decls.now _ (c.thread_tells_nothing.ensures c.if-thread_tells_nothing.true c.args.decls.now)
