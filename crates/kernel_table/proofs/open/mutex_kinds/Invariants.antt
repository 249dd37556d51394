use Rattle.std.proofs.Common.{◌≡◌, take}
use Rattle.std.specs.Prelude.{map}
use Rattle.std.specs.List.{filter_map}
use Rattle.rules_machine.specs.Declarations.{mutex_kind, named}
use Rattle.parts_owners.specs.Fresh.{free_mutex}
use Rattle.kernel_table.proofs.open.mutex_kinds.Given as goal

abbrev pub invariant-loop-decl : goal.invariant-loop-decl
invariant-loop-decl l = map free_mutex l.kinds.items ≡ filter_map (named mutex_kind) (take l.decl-index l.decl-items)
