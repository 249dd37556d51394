use Rattle.std.proofs.Common.{◌≡◌, take}
use Rattle.std.specs.List.{filter_map}
use Rattle.rules_machine.specs.Declarations.{named, semaphore_kind}
use Rattle.kernel_semaphores.proofs.Semaphores.open.Given as goal

abbrev pub invariant-loop-decl : goal.invariant-loop-decl
invariant-loop-decl l = l.values.items ≡ filter_map (named semaphore_kind) (take l.decl-index l.decl-items)
