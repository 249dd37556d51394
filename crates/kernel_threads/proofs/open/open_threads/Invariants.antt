use Rattle.std.proofs.Common.{◌≡◌, take}
use Rattle.std.specs.Prelude.{map}
use Rattle.std.specs.List.{filter_map}
use Rattle.rules_machine.specs.Declarations.{declared_thread}
use Rattle.rules_machine.specs.Runs.{thread_opened}
use Rattle.kernel_threads.proofs.open.open_threads.Given as goal

abbrev pub invariant-loop-decl : goal.invariant-loop-decl
invariant-loop-decl l = l.threads.items ≡ map thread_opened (filter_map declared_thread (take l.decl-index l.decl-items))
