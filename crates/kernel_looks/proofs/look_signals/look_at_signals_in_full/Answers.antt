use Rattle.std.proofs.Common.{◌≡◌, ◌∙◌, [], ◌∷◌, ℕ, Option, add-one, ap, arith, below_more, false, subst, sym, ◌<◌}
use Rattle.std.specs.Prelude.{slice_index_or}
use Rattle.rules_facts.specs.Signals.{signal_fact}
use Rattle.kernel_texts.specs.Lines.{fact_text}
use Rattle.kernel_texts.specs.Short.{HasShortText}
use Rattle.kernel_texts.specs.Kept.{kept_below}
use Rattle.kernel_texts.specs.Picked.{left_in}
use Rattle.kernel_looks.specs.Desk.{WentOn}
use Rattle.kernel_looks.proofs.Looking.{went_both, went_none}
use Rattle.kernel_looks.proofs.PendingSignals.{signal_silent}
use Rattle.kernel_looks.proofs.look_signals.look_at_signals_in_full.Goals as goal

pub loop-signal-init : goal.loop-signal-init
loop-signal-init c = record { kept = went_none _ _; short = λ s low. absurd (omega (arith, low)); memory = c.requires.memory }

pub look_at_signal-requires-clause-silent : goal.look_at_signal-requires-clause-silent
look_at_signal-requires-clause-silent c off =
    let pending = c.pending_signals-pending.result in
    signal_silent pending c.loop-signal.signal (omega arith) (ap (λ (k : ℕ). slice_index_or pending k false) (sym c.from.ensures) ∙ off)
    c.args.parts.now.machine c.left_out-out_of_it.result c.pending_signals-pending.ensures

pub loop-signal-preserved : goal.loop-signal-preserved
loop-signal-preserved c =
    let holds = λ (s : ℕ). HasShortText c.args.decls.now (signal_fact (left_in c.left_out-out_of_it.result c.args.parts.now.machine) s) in
    record {
      kept = rw add-one (went_both _ _ _ _ _ _ _ _ c.loop-signal.invariant.kept c.look_at_signal.ensures.kept);
      short = below_more holds c.loop-signal.signal c.loop-signal.invariant.short c.look_at_signal.ensures.short;
      memory = c.look_at_signal.ensures.memory;
    }

pub returns-clause-kept : goal.returns-clause-kept
returns-clause-kept c =
    let m = c.args.parts.now.machine in
    let all : c.loop-signal.signal ≡ 32 = omega arith in
    let kept = rw all at c.loop-signal.invariant.kept in
    subst (λ (o : Option ℕ). WentOn c.args.next.now c.loop-signal.next c.args.desk.now c.loop-signal.desk (kept_below (λ (s : ℕ). fact_text c.args.decls.now (signal_fact (left_in o m) s) ∷ []) 32)) c.left_out-out_of_it.ensures kept

pub returns-clause-short : goal.returns-clause-short
returns-clause-short c =
    let m = c.args.parts.now.machine in
    let all : c.loop-signal.signal ≡ 32 = omega arith in
    let short = rw all at c.loop-signal.invariant.short in
    subst (λ (o : Option ℕ). (s : ℕ) → s < 32 → HasShortText c.args.decls.now (signal_fact (left_in o m) s)) c.left_out-out_of_it.ensures short
