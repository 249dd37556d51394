use Rattle.std.proofs.Common.{[], false, true, ◌∷◌, ◌++◌}
use Rattle.kernel_texts.specs.Kept.{kept_below, waiters_text}
use Rattle.kernel_seen.specs.FactSeen.{IsMemoryOf}
use Rattle.kernel_looks.specs.Desk.{WentOn}
use Rattle.kernel_looks.proofs.look.look_at_queue_waiters.Given as goal

abbrev pub invariant-loop-number : goal.invariant-loop-number
invariant-loop-number l = record {
  kept : WentOn l.initial.next l.next l.initial.desk l.desk (kept_below (λ q. waiters_text l.decls true l.parts.machine q ∷ [] ++ waiters_text l.decls false l.parts.machine q ∷ []) l.number);
  memory : IsMemoryOf l.decls l.desk.told.texts l.desk.seen;
}
