use Rattle.std.proofs.Common.{sym}
use Rattle.kernel_looks.proofs.Stretches.{still_seen}
use Rattle.kernel_looks.proofs.look_lists.is_list_ahead.Goals as goal

pub returns : goal.returns
returns c e = still_seen c.args.desk.now _ c.seen_ahead.result.now _ (sym c.seen_ahead.ensures) (c.is_list.ensures.some e) (c.is_list.ensures.same e)
