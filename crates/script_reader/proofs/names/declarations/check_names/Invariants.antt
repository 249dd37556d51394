use Rattle.std.proofs.Common.{◌≡◌, drop, map, ℕ}
use Rattle.script_table.specs.Faults.{least}
use Rattle.script_table.specs.Structure.{IsRising}
use Rattle.script_table.specs.Names.{phase_two}
use Rattle.script_reader.proofs.names.declarations.check_names.Given as goal

abbrev pub invariant-loop-s : goal.invariant-loop-s
invariant-loop-s l = record {
  faults : least (phase_two l.all (map (λ s. s.now) (drop l.s-index l.lines))) ≡ least (phase_two l.all (map (λ s. s.now) l.lines));
  rising : (last : ℕ) × IsRising last (map (λ s. s.now) (drop l.s-index l.lines));
}
