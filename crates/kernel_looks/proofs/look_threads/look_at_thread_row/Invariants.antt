use Rattle.std.proofs.Common.{[], ◌∷◌, ◌<◌, ◌≤◌, ℕ}
use Rattle.std.specs.Prelude.{◌-◌}
use Rattle.kernel_texts.specs.Lines.{fact_text}
use Rattle.kernel_texts.specs.Rows.{thread_fact_of}
use Rattle.kernel_texts.specs.Short.{HasShortText}
use Rattle.kernel_texts.specs.Kept.{kept_below}
use Rattle.kernel_seen.specs.FactSeen.{IsMemoryOf}
use Rattle.kernel_looks.specs.Ahead.{IsStretch, past}
use Rattle.kernel_looks.specs.Desk.{WentOn}
use Rattle.kernel_looks.proofs.look_threads.look_at_thread_row.Given as goal

abbrev pub decreases-loop-number : goal.decreases-loop-number
decreases-loop-number l = l.count - l.number

abbrev pub invariant-loop-number : goal.invariant-loop-number
invariant-loop-number l = record {
  few : l.number ≤ l.count;
  stretch : IsStretch l.stretch l.desk;
  kept : WentOn l.initial.next l.next l.initial.desk (past l.stretch l.desk) (kept_below (λ t. fact_text l.decls (thread_fact_of l.row l.parts.machine t) ∷ []) l.number);
  short : (t : ℕ) → t < l.number → HasShortText l.decls (thread_fact_of l.row l.parts.machine t);
  memory : IsMemoryOf l.decls l.desk.told.texts l.desk.seen;
}
