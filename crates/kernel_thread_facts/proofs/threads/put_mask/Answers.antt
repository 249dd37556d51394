use Rattle.std.proofs.Common.{◌≡◌, ℕ, ap, subst, sym, true, ◌∙◌}
use Rattle.rules_bodies.specs.declared.cursor.Cursor.{Cursor}
use Rattle.rules_machine.specs.State.{Thread}
use Rattle.rules_machine.specs.Threads.{is_live, thread_at}
use Rattle.rules_facts.specs.Fact.{masked}
use Rattle.rules_facts.specs.Threads.{living}
use Rattle.script_printer.specs.Puts.{Puts}
use Rattle.kernel_texts.specs.Lines.{fact_text}
use Rattle.kernel_texts.proofs.Living.{living_is}
use Rattle.kernel_thread_facts.proofs.threads.put_mask.Goals as goal

pub returns-then-is_live : goal.returns-then-is_live
returns-then-is_live g c =
    let th = thread_at c.args.parts.now.machine c.args.t in
    let live : is_live th.status ≡ true = subst (λ (x : Thread Cursor). is_live x.status ≡ true) c.thread.ensures (sym c.is_live.ensures ∙ c.if-is_live.true) in
    let same : c.mask.result ≡ (living th).mask =
    c.mask.ensures ∙ ap (λ (x : Thread Cursor). x.mask) c.thread-then-is_live.ensures ∙ ap (λ (x : Thread Cursor). x.mask) (sym (living_is th live)) in
    subst (λ (set : ℕ). Puts g.K.Sink.text g.K.Sink.faults c.args.out.now c.put_masked.new.out (fact_text c.args.decls.now (masked c.args.t set))) same c.put_masked.ensures
