use Rattle.std.proofs.Common.{◌≡◌, [], ◌∷◌}
use Rattle.parts_arrivals.specs.Held.{first_nodes}
use Rattle.parts_arrivals.proofs.arrivals.all_free.Given as goal

abbrev pub invariant-loop-node : goal.invariant-loop-node
invariant-loop-node l = l.arrived ≡ record { nodes = l.nodes; lists = [] ∷ first_nodes l.node ∷ [] }
