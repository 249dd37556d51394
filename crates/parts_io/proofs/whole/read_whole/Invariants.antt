use Rattle.std.proofs.Common.{◌≡◌, ◌+◌, ◌≤◌, length, ◌-◌}
use Rattle.std.specs.Io.KnownBytes.{Consumes}
use Rattle.parts_io.specs.Causes.{GrewBy}
use Rattle.parts_io.proofs.whole.read_whole.Given as goal

abbrev pub invariant-loop-bytes : goal.invariant-loop-bytes
invariant-loop-bytes g l = record {
  short : length l.bytes.items ≤ l.limit + 1;
  bytes : Consumes (g.S.Source.rest l.initial.source) (g.S.Source.rest l.source) l.bytes.items;
  count : GrewBy (length l.bytes.items) (g.S.Source.taken l.initial.source) (g.S.Source.taken l.source);
  faults : g.S.Source.faults l.source ≡ g.S.Source.faults l.initial.source;
}

abbrev pub decreases-loop-bytes : goal.decreases-loop-bytes
decreases-loop-bytes g l = l.limit + 1 - length l.bytes.items
