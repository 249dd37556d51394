use Rattle.std.proofs.Common.{ap, arith}
use Rattle.rules_machine.specs.declared.signal.SigAction.TheVariants as action
use Rattle.rules_machine.specs.Signals.{is_kill}
use Rattle.kernel_signals.proofs.Killing.{action_read, one_more}
use Rattle.kernel_signals.proofs.actions.kills_of.Goals as goal

pub loop-signal-preserved : goal.loop-signal-preserved
loop-signal-preserved c =
    let read = action_read c.args.items.now c.loop-signal.signal action.Kill c.index-items-signal.result (omega (arith, c.loop-signal-test.true, c.type_inv.items)) in
    one_more c.args.items.now c.loop-signal.signal c.loop-signal.kills _ _ (ap is_kill read) c.with_kill-kills.ensures c.loop-signal.invariant
