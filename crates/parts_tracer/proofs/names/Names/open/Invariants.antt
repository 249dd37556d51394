use Rattle.std.proofs.Common.{◌≡◌, [], replicate}
use Rattle.parts_tracer.proofs.names.Names.open.Given as goal

abbrev pub invariant-loop : goal.invariant-loop
invariant-loop l = l.list.items ≡ replicate l.counter []
