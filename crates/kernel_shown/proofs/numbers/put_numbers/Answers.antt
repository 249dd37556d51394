use Rattle.std.proofs.Common.{◌≡◌, ap, subst, sym, true, ◌∙◌}
use Rattle.rules_bodies.specs.declared.cursor.Cursor.{Cursor}
use Rattle.rules_machine.specs.State.{Thread}
use Rattle.rules_machine.specs.Threads.{is_live, thread_at}
use Rattle.script_printer.proofs.Puts.{puts_both}
use Rattle.kernel_texts.proofs.Puts.{puts_as}
use Rattle.kernel_texts.proofs.Ticks.{live_text}
use Rattle.kernel_shown.proofs.numbers.put_numbers.Goals as goal

pub returns : goal.returns
returns g c =
    let put = puts_both _ _ _ _ _ _ _ c.put_top.ensures (puts_both _ _ _ _ _ _ _ c.put_slice.ensures c.put_budget.ensures) in
    let th = thread_at c.args.parts.now.machine c.args.t in
    let live : is_live th.status ≡ true =
    subst (λ (x : Thread Cursor). is_live x.status ≡ true) c.thread-thread.ensures (sym c.is_live.ensures ∙ c.if-not-is_live.false) in
    let same = c.thread-thread.ensures in
    puts_as _ _ _ _ _ _ (live_text c.args.decls.now c.args.t th live _ _ _ _ _ (c.ticks.ensures ∙ ap (λ (x : Thread Cursor). x.ticks) same)
    (c.slice.ensures ∙ ap (λ (x : Thread Cursor). x.slice) same) (c.frames.ensures ∙ ap (λ (x : Thread Cursor). x.frames) same)
    (c.policy.ensures ∙ ap (λ (x : Thread Cursor). x.policy) same) (c.server.ensures ∙ ap (λ (x : Thread Cursor). x.server) same)) put
