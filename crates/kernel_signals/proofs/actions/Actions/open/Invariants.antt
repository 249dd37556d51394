use Rattle.std.proofs.Common.{◌≡◌, length, replicate, take}
use Rattle.std.specs.Prelude.{fold}
use Rattle.rules_machine.specs.Declarations.{with_action}
use Rattle.rules_machine.specs.declared.signal.SigAction.TheVariants as action
use Rattle.kernel_signals.proofs.actions.Actions.open.Given as goal

abbrev pub invariant-loop-decl : goal.invariant-loop-decl
invariant-loop-decl l = (length l.items ≡ 32) × (l.items ≡ fold with_action (replicate 32 action.Kill) (take l.decl-index l.decl-items))
