use Rattle.std.proofs.Common.{[], ◌∷◌, ◌<◌, ℕ}
use Rattle.kernel_texts.specs.Lines.{facts_text}
use Rattle.kernel_texts.specs.Rows.{object_facts}
use Rattle.kernel_texts.specs.Short.{HaveShortTexts}
use Rattle.kernel_texts.specs.Kept.{kept_below}
use Rattle.kernel_seen.specs.FactSeen.{IsMemoryOf}
use Rattle.kernel_looks.specs.Desk.{WentOn}
use Rattle.kernel_looks.proofs.look.look_at_object_row.Given as goal

abbrev pub invariant-loop-number : goal.invariant-loop-number
invariant-loop-number l = record {
  kept : WentOn l.initial.next l.next l.initial.desk l.desk (kept_below (λ k. facts_text l.decls (object_facts l.row l.parts.machine k) ∷ []) l.number);
  short : (k : ℕ) → k < l.number → HaveShortTexts l.decls (object_facts l.row l.parts.machine k);
  memory : IsMemoryOf l.decls l.desk.told.texts l.desk.seen;
}
