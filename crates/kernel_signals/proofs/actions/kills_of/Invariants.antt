use Rattle.kernel_signals.specs.Actions.{Kills}
use Rattle.kernel_signals.proofs.actions.kills_of.Given as goal

abbrev pub invariant-loop-signal : goal.invariant-loop-signal
invariant-loop-signal l = Kills l.items l.signal l.kills
