use Rattle.std.proofs.Common.{[], ◌∷◌, ◌<◌, ℕ}
use Rattle.rules_facts.specs.Signals.{signal_fact}
use Rattle.kernel_texts.specs.Lines.{fact_text}
use Rattle.kernel_texts.specs.Short.{HasShortText}
use Rattle.kernel_texts.specs.Kept.{kept_below}
use Rattle.kernel_texts.specs.Picked.{left_in}
use Rattle.kernel_seen.specs.FactSeen.{IsMemoryOf}
use Rattle.kernel_looks.specs.Desk.{WentOn}
use Rattle.kernel_looks.proofs.look_signals.look_at_signals_in_full.Given as goal

abbrev pub invariant-loop-signal : goal.invariant-loop-signal
invariant-loop-signal l = record {
  kept : WentOn l.initial.next l.next l.initial.desk l.desk (kept_below (λ s. fact_text l.decls (signal_fact (left_in l.out_of_it l.parts.machine) s) ∷ []) l.signal);
  short : (s : ℕ) → s < l.signal → HasShortText l.decls (signal_fact (left_in l.out_of_it l.parts.machine) s);
  memory : IsMemoryOf l.decls l.desk.told.texts l.desk.seen;
}
