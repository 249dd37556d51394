use Rattle.kernel_state.proofs.Opened.{tied_opening}
use Rattle.kernel_state.proofs.StandOn.{none_named_at_first}
use Rattle.kernel_state.proofs.StillModest.{opened_modest}
use Rattle.kernel_state.proofs.parts.Parts.of.Goals as goal

pub invariant_of-result : goal.invariant_of-result
invariant_of-result c = record {
  tied = rw (c.requires.names, c.requires.code, c.requires.ready, c.requires.table, c.empty.ensures) (tied_opening c.args.script.now c.requires.runnable);
  stand = rw c.requires.ready (none_named_at_first c.none.result.bits _ c.none.ensures);
  modest = rw c.requires.table (opened_modest c.args.script.now _ _ c.new.ensures);
}
