use Rattle.std.proofs.Common.{subst, sym, ℕ}
use Rattle.rules_facts.specs.Signals.{signal_fact}
use Rattle.kernel_texts.specs.Lines.{fact_text}
use Rattle.kernel_texts.specs.Rows.{left_out}
use Rattle.kernel_texts.specs.Picked.{left_in}
use Rattle.kernel_looks.specs.Desk.{WentOn}
use Rattle.kernel_looks.proofs.NothingTold.{nothing_short, signal_nothing}
use Rattle.kernel_looks.proofs.Runs.{kept_nothing}
use Rattle.kernel_looks.proofs.look_signals.look_at_signals.Goals as goal

pub returns-then-none_pending-clause-kept : goal.returns-then-none_pending-clause-kept
returns-then-none_pending-clause-kept c =
    let m = c.args.parts.now.machine in
    let ds = c.args.decls.now in
    subst (WentOn c.args.next.now c.args.next.now c.args.desk.now c.go_over_nothings.new.self)
    (sym (kept_nothing (λ (s : ℕ). fact_text ds (signal_fact (left_in (left_out m) m) s)) 32 (λ s low. signal_nothing m s (left_out m) (c.none_pending.ensures.0 c.if-none_pending.true) ds)))
    (c.go_over_nothings.ensures.went ds c.requires.memory c.args.next.now)

pub returns-then-none_pending-clause-short : goal.returns-then-none_pending-clause-short
returns-then-none_pending-clause-short c s low =
    let m = c.args.parts.now.machine in
    nothing_short c.args.decls.now _ (signal_nothing m s (left_out m) (c.none_pending.ensures.0 c.if-none_pending.true) c.args.decls.now)

pub returns-then-none_pending-clause-memory : goal.returns-then-none_pending-clause-memory
returns-then-none_pending-clause-memory c = c.go_over_nothings.ensures.seen c.args.decls.now c.requires.memory
