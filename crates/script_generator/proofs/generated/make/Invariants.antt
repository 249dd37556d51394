use Rattle.std.proofs.Common.{◌≡◌, ◌-◌, ◌++◌, ◌%◌}
use Rattle.script_generator.specs.Draws.{next, modulus}
use Rattle.script_generator.specs.Generated.{shared, threads_from}
use Rattle.script_generator.proofs.generated.make.Given as goal

abbrev pub invariant-loop-k : goal.invariant-loop-k
invariant-loop-k l = l.decls.items ++ threads_from (l.count - l.k) l.k l.draws ≡ shared ++ threads_from l.count 0 (next (l.fn.number % modulus))
