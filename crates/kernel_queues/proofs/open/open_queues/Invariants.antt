use Rattle.std.proofs.Common.{◌≡◌, take}
use Rattle.std.specs.List.{filter_map}
use Rattle.rules_machine.specs.Declarations.{named, queue_kind}
use Rattle.kernel_queues.proofs.open.open_queues.Given as goal

abbrev pub invariant-loop-decl : goal.invariant-loop-decl
invariant-loop-decl l = l.queues.items ≡ filter_map (named queue_kind) (take l.decl-index l.decl-items)
