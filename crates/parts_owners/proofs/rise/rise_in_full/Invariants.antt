use Rattle.std.proofs.Common.{length, ◌<◌}
use Rattle.parts_owners.specs.Chains.{prio_in}
use Rattle.parts_owners.specs.Rises.{RisesThrough}
use Rattle.parts_owners.proofs.Turns.{Walking}
use Rattle.parts_owners.proofs.rise.rise_in_full.Given as goal

abbrev pub invariant-loop : goal.invariant-loop
invariant-loop l = record {
  walking : Walking l.claims l.mutexes l.fn.start l.fn.exec l.fn.w l.counter l.at l.exec l.w;
  mutex : l.through < length l.mutexes;
  rises : RisesThrough l.claims l.mutexes (prio_in l.exec) l.through l.at;
}
