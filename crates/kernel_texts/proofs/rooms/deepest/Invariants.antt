use Rattle.std.proofs.Common.{drop, max, ◌≡◌, ◌<◌, ◌^◌}
use Rattle.kernel_texts.specs.Rooms.{deepest}
use Rattle.kernel_texts.proofs.rooms.deepest.Given as goal

abbrev pub invariant-loop-decl : goal.invariant-loop-decl
invariant-loop-decl l = record {
  few : l.most < 2 ^ 32;
  so_far : max l.most (deepest (drop l.decl-index l.decls)) ≡ deepest l.decls;
}
