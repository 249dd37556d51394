use Rattle.std.proofs.Common.{◌≡◌, ◌∷◌, [], ap, arith, codes, decimal, ◌∙◌}
use Rattle.rules_machine.specs.Priorities.{assigned_of, exec}
use Rattle.rules_machine.specs.Threads.{thread_at}
use Rattle.rules_machine.specs.CallNames.{name_of}
use Rattle.words_trace.specs.Calls.{call_word}
use Rattle.kernel_threads.specs.Plain.{wait_of, waiting_of}
use Rattle.rules_facts.specs.Spelled.{awaited_words, until_words, words_if_any}
use Rattle.rules_facts.specs.Threads.{awaited, blocking_of, priorities_of}
use Rattle.script_printer.proofs.Puts.{puts_both}
use Rattle.kernel_texts.proofs.Lines.{line_in_three}
use Rattle.kernel_texts.proofs.Puts.{puts_as}
use Rattle.kernel_texts.proofs.Modest.{blocked_short}
use Rattle.kernel_thread_facts.proofs.threads.put_blocked.Goals as goal

pub returns-clause-text : goal.returns-clause-text
returns-clause-text g c =
    let put = puts_both _ _ _ _ _ _ _ c.begin.ensures.text (puts_both _ _ _ _ _ _ _ c.put_awaited.ensures (puts_both _ _ _ _ _ _ _ c.put_due.ensures.text c.end.ensures)) in
    let line = line_in_three (codes "thread") (c.thread_name.result.now ∷ codes "blocked" ∷ decimal c.from.result ∷ decimal c.from-2.result ∷ c.call_text.result.now ∷ [])
    (awaited_words c.args.decls.now (awaited (wait_of c.args.waiting.now.wait))) (words_if_any until_words c.args.waiting.now.due) in
    let assigned : c.from.result ≡ assigned_of (thread_at c.args.parts.now.machine c.args.t) =
    c.from.ensures ∙ c.get.ensures.value ∙ c.assigned.ensures ∙ ap assigned_of c.thread.ensures in
    let higher : c.from-2.result ≡ exec c.args.parts.now.machine c.args.t = c.from-2.ensures ∙ c.get-2.ensures.value ∙ c.exec.ensures in
    let call : c.call_text.result.now ≡ call_word (name_of c.args.waiting.now.call) = c.call_text.ensures.word ∙ ap call_word c.call_name.ensures in
    rw (c.thread_name.ensures.name, assigned, higher, call) at (puts_as _ _ _ _ _ _ line put)

pub returns-clause-short : goal.returns-clause-short
returns-clause-short g c =
    let m = c.args.parts.now.machine in
    let assigned : c.from.result ≡ assigned_of (thread_at m c.args.t) = c.from.ensures ∙ c.get.ensures.value ∙ c.assigned.ensures ∙ ap assigned_of c.thread.ensures in
    let higher : c.from-2.result ≡ exec m c.args.t = c.from-2.ensures ∙ c.get-2.ensures.value ∙ c.exec.ensures in
    blocked_short c.args.decls.now c.args.t (priorities_of m c.args.t) (blocking_of (waiting_of c.args.waiting.now)) (record { assigned = omega (arith, assigned); exec = omega (arith, higher) })
    c.put_due.ensures.short
