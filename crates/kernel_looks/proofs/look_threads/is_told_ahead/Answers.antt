use Rattle.std.proofs.Common.{sym}
use Rattle.kernel_looks.proofs.Stretches.{still_nothing, still_seen}
use Rattle.kernel_looks.proofs.look_threads.is_told_ahead.Goals as goal

pub returns-then-thread_tells_nothing : goal.returns-then-thread_tells_nothing
returns-then-thread_tells_nothing c e = still_nothing c.args.desk.now _ _ (c.thread_tells_nothing.ensures c.if-thread_tells_nothing.true) (c.is_empty_ahead.ensures e)

pub returns : goal.returns
returns c e = still_seen c.args.desk.now _ c.seen_ahead.result.now _ (sym c.seen_ahead.ensures) (c.is_of_thread.ensures.some e) (c.is_of_thread.ensures.same e)
