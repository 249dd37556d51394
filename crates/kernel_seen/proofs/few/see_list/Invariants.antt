use Rattle.std.proofs.Common.{◌≡◌, length, take}
use Rattle.rules_lists.specs.Lists.{list_of}
use Rattle.kernel_seen.proofs.few.see_list.Given as goal

abbrev pub invariant-loop-place : goal.invariant-loop-place
invariant-loop-place l = record {
  room : length l.threads ≡ 8;
  same : take l.place (list_of l.p l.parts.machine.lists) ≡ take l.place l.threads;
}
