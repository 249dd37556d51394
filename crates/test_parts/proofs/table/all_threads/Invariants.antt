use Rattle.std.proofs.Common.{◌≡◌, ◌≤◌, [], length}
use Rattle.std.specs.Prelude.{filter_map}
use Rattle.rules_machine.specs.Declarations.{named, timer_kind}
use Rattle.test_parts.proofs.table.all_threads.Given as goal

abbrev pub invariant-loop-number : goal.invariant-loop-number
invariant-loop-number l = (length l.decls.items ≤ l.number) × (filter_map (named timer_kind) l.decls.items ≡ [])
