-- The lines of a queue: the fact of one, and that its text is short.
use Rattle.std.proofs.Common.{◌≡◌, ℕ, Bool, List, false, refl, true}
use Rattle.words_script.specs.declared.decl.Decl.{Decl}
use Rattle.rules_facts.specs.Objects.{in_service_order}
use Rattle.rules_machine.specs.State.{Machine}
use Rattle.kernel_lines.specs.InLine.{stands_in}
use Rattle.kernel_texts.specs.Lines.{fact_text}
use Rattle.kernel_texts.specs.Short.{HasShortText}
use Rattle.kernel_texts.specs.Kept.{waiters_text}
use Rattle.kernel_texts.proofs.ShortFacts.{both_short}
use Rattle.kernel_seen.specs.KeptLines.{line_fact, queue_line}

-- of a queue that fact is what is told of it, and its text is short
module _ {P : Type 0} (decls : List Decl) (m : Machine P) (q : ℕ) where
  pub waiters_told : (to_send : Bool) → fact_text decls (line_fact (queue_line to_send q) (in_service_order m (stands_in (queue_line to_send q)))) ≡ waiters_text decls to_send m q
  waiters_told true = refl
  waiters_told false = refl

  pub waiters_are_short : (to_send : Bool) → HasShortText decls (line_fact (queue_line to_send q) (in_service_order m (stands_in (queue_line to_send q))))
  waiters_are_short true = (both_short decls m q).0
  waiters_are_short false = (both_short decls m q).1.0
