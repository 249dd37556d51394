use Rattle.std.proofs.Common.{◌≡◌, drop}
use Rattle.rules_machine.specs.Settling.{moved_all}
use Rattle.kernel_state.specs.Kernel.{with_lists}
use Rattle.kernel_settling.proofs.settling.move_all.Given as goal

abbrev pub invariant-loop-i : goal.invariant-loop-i
invariant-loop-i l = record {
  same : l.p ≡ with_lists (λ lists. l.p.machine.lists) l.fn.p;
  rest : moved_all l.fn.p.machine (drop l.i l.fn.p.direct) l.p.machine.lists ≡ moved_all l.fn.p.machine l.fn.p.direct l.fn.p.machine.lists;
}
