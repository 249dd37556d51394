use Rattle.std.proofs.Common.{◌≡◌, take}
use Rattle.std.specs.List.{filter_map}
use Rattle.rules_machine.specs.Declarations.{named, timer_kind}
use Rattle.kernel_timers.proofs.open.open_timers.Given as goal

abbrev pub invariant-loop-decl : goal.invariant-loop-decl
invariant-loop-decl l = l.timers.items ≡ filter_map (named timer_kind) (take l.decl-index l.decl-items)
