use Rattle.std.proofs.Common.{◌≡◌, ap, subst, sym, true, ◌∙◌}
use Rattle.rules_bodies.specs.declared.cursor.Cursor.{Cursor}
use Rattle.rules_machine.specs.State.{Thread}
use Rattle.rules_machine.specs.Threads.{is_live, thread_at}
use Rattle.rules_facts.specs.Fact.{Cancelability, cancelability}
use Rattle.rules_facts.specs.Threads.{cancelability_of}
use Rattle.script_printer.specs.Puts.{Puts}
use Rattle.kernel_texts.specs.Lines.{fact_text}
use Rattle.kernel_texts.proofs.Living.{flags_same, living_is}
use Rattle.kernel_thread_facts.proofs.threads.put_cancelability.Goals as goal

pub returns-then-is_live : goal.returns-then-is_live
returns-then-is_live g c =
    let th = thread_at c.args.parts.now.machine c.args.t in
    let live : is_live th.status ≡ true = subst (λ (x : Thread Cursor). is_live x.status ≡ true) c.thread-thread.ensures (sym c.is_live.ensures ∙ c.if-is_live.true) in
    let same = flags_same c.thread-thread.result.now _ _ _ c.is_requested.ensures c.is_enabled.ensures c.is_ending.ensures
    ∙ ap (λ (x : Thread Cursor). cancelability_of x) (c.thread-thread.ensures ∙ sym (living_is th live)) in
    subst (λ (flags : Cancelability). Puts g.K.Sink.text g.K.Sink.faults c.args.out.now c.put_flags.new.out (fact_text c.args.decls.now (cancelability c.args.t flags))) same c.put_flags.ensures
