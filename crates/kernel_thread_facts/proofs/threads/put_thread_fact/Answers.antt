use Rattle.std.proofs.Common.{subst, sym}
use Rattle.script_printer.specs.Puts.{Puts}
use Rattle.kernel_texts.specs.declared.rows.ThreadRow.{ThreadRow}
use Rattle.kernel_texts.specs.Lines.{fact_text}
use Rattle.kernel_texts.specs.Rows.{thread_fact_of}
use Rattle.kernel_texts.specs.Short.{HasShortText}
use Rattle.kernel_texts.proofs.Modest.{cancelability_short, cleanups_short, frames_short, masked_short}
use Rattle.kernel_thread_facts.proofs.threads.put_thread_fact.Goals as goal

pub returns-in-Cancelability-clause-text : goal.returns-in-Cancelability-clause-text
returns-in-Cancelability-clause-text g c =
    subst (λ (row : ThreadRow). Puts g.K.Sink.text g.K.Sink.faults c.args.out.now c.put_cancelability.new.out (fact_text c.args.decls.now (thread_fact_of row c.args.parts.now.machine c.args.t)))
    (sym c.in-Cancelability.is) c.put_cancelability.ensures

pub returns-in-Status-clause-short : goal.returns-in-Status-clause-short
returns-in-Status-clause-short g c = subst (λ (row : ThreadRow). HasShortText c.args.decls.now (thread_fact_of row c.args.parts.now.machine c.args.t)) (sym c.in-Status.is) c.put_status.ensures.short

pub returns-in-Frames-clause-short : goal.returns-in-Frames-clause-short
returns-in-Frames-clause-short g c = subst (λ (row : ThreadRow). HasShortText c.args.decls.now (thread_fact_of row c.args.parts.now.machine c.args.t)) (sym c.in-Frames.is) (frames_short c.args.decls.now c.args.t _)

pub returns-in-Mask-clause-short : goal.returns-in-Mask-clause-short
returns-in-Mask-clause-short g c = subst (λ (row : ThreadRow). HasShortText c.args.decls.now (thread_fact_of row c.args.parts.now.machine c.args.t)) (sym c.in-Mask.is) (masked_short c.args.decls.now c.args.t _)

pub returns-in-Cancelability-clause-short : goal.returns-in-Cancelability-clause-short
returns-in-Cancelability-clause-short g c = subst (λ (row : ThreadRow). HasShortText c.args.decls.now (thread_fact_of row c.args.parts.now.machine c.args.t)) (sym c.in-Cancelability.is) (cancelability_short c.args.decls.now c.args.t _)

pub returns-in-Cleanups-clause-short : goal.returns-in-Cleanups-clause-short
returns-in-Cleanups-clause-short g c = subst (λ (row : ThreadRow). HasShortText c.args.decls.now (thread_fact_of row c.args.parts.now.machine c.args.t)) (sym c.in-Cleanups.is) (cleanups_short c.args.decls.now c.args.t _)

pub returns-in-Pending-clause-short : goal.returns-in-Pending-clause-short
returns-in-Pending-clause-short g c = subst (λ (row : ThreadRow). HasShortText c.args.decls.now (thread_fact_of row c.args.parts.now.machine c.args.t)) (sym c.in-Pending.is) c.put_pending.ensures.short
