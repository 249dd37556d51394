use Rattle.std.proofs.Common.{◌-◌, length}
use Rattle.rules_bodies.specs.Fetch.{ops_of}
use Rattle.script_code.proofs.Safe.{SearchesOn}
use Rattle.script_code.proofs.units.Units.search.Given as goal

abbrev pub invariant-loop-op : goal.invariant-loop-op
invariant-loop-op l = SearchesOn (ops_of l.self.code l.self.body) l.fn.at l.at

abbrev pub decreases-loop-op : goal.decreases-loop-op
decreases-loop-op l = length (ops_of l.self.code l.self.body) - l.at.pc
