use Rattle.std.proofs.Common.{◌≡◌}
use Rattle.parts_owners.specs.Chains.{asked_in, prio_in}
use Rattle.parts_owners.proofs.Turns.{Walking}
use Rattle.parts_owners.proofs.walk.walk_on.Given as goal

abbrev pub invariant-loop : goal.invariant-loop
invariant-loop l = record {
  walking : Walking l.claims l.mutexes l.fn.start l.fn.exec l.fn.w l.counter l.at l.exec l.w;
  asks : l.wanted ≡ asked_in l.claims l.mutexes (prio_in l.exec) l.at;
}
