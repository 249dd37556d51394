use Rattle.std.proofs.Common.{◌≡◌, ◌≤◌, ◌∷◌, ℕ, List, Option, Some, [], ap, arith, codes, decimal, length, refl, ◌∙◌}
use Rattle.script_lex.specs.Joined.{after_blanks}
use Rattle.script_writer.specs.Line.{line_text}
use Rattle.words_script.specs.declared.decl.Decl.{Decl}
use Rattle.words_trace.specs.Calls.{call_word}
use Rattle.words_trace.specs.declared.event.CallName.{CallName}
use Rattle.rules_machine.specs.CallNames.{name_of}
use Rattle.rules_machine.specs.Priorities.{assigned_of, exec}
use Rattle.rules_machine.specs.State.{Wait, for_time}
use Rattle.rules_machine.specs.Threads.{thread_at}
use Rattle.kernel_threads.specs.Plain.{wait_of, waiting_of}
use Rattle.rules_facts.specs.Fact.{Priorities, blocked_thread}
use Rattle.rules_facts.specs.Spelled.{thread_name, until_words, words_if_any}
use Rattle.rules_facts.specs.Threads.{awaited, blocking_of, priorities_of}
use Rattle.kernel_texts.specs.Lines.{fact_text}
use Rattle.kernel_texts.specs.Modest.{IsNumber}
use Rattle.kernel_texts.proofs.Puts.{puts_as}
use Rattle.kernel_texts.proofs.Modest.{blocked_short, due_short}
use Rattle.kernel_thread_facts.proofs.threads.put_sleeper.Goals as goal

asleep_as : (decls : List Decl) (t : ℕ) (p : Priorities) (call : CallName) (wait : Wait) (due : Option ℕ) (until : ℕ) → wait ≡ for_time → due ≡ Some until
    → line_text (codes "thread" ∷ thread_name decls t ∷ codes "blocked" ∷ decimal p.assigned ∷ decimal p.exec ∷ call_word call ∷ codes "until" ∷ decimal until ∷ [])
    ≡ fact_text decls (blocked_thread t p (record { call = call; awaited = awaited wait; due = due }))
asleep_as decls t p call wait due until e f = rw (e, f) refl

until_short : (due : Option ℕ) (until : ℕ) → due ≡ Some until → IsNumber until → length (after_blanks (words_if_any until_words due)) ≤ 38
until_short due until e fits = rw e (due_short until fits)

pub returns-clause-text : goal.returns-clause-text
returns-clause-text g c =
    let m = c.args.parts.now.machine in
    let w = waiting_of c.args.waiting.now in
    let assigned : c.from.result ≡ assigned_of (thread_at m c.args.t) = c.from.ensures ∙ c.get.ensures.value ∙ c.assigned.ensures ∙ ap assigned_of c.thread.ensures in
    let higher : c.from-2.result ≡ exec m c.args.t = c.from-2.ensures ∙ c.get-2.ensures.value ∙ c.exec.ensures in
    let call : c.call_text.result.now ≡ call_word (name_of c.args.waiting.now.call) = c.call_text.ensures.word ∙ ap call_word c.call_name.ensures in
    puts_as _ _ _ _ _ _ (asleep_as c.args.decls.now c.args.t (priorities_of m c.args.t) (name_of c.args.waiting.now.call) (wait_of c.args.waiting.now.wait) c.args.waiting.now.due c.args.until c.requires.asleep c.requires.until)
    (rw (c.thread_name.ensures.name, assigned, higher, call, c.get-3.ensures.value) at c.line.ensures.text)

pub returns-clause-short : goal.returns-clause-short
returns-clause-short g c =
    let m = c.args.parts.now.machine in
    let assigned : c.from.result ≡ assigned_of (thread_at m c.args.t) = c.from.ensures ∙ c.get.ensures.value ∙ c.assigned.ensures ∙ ap assigned_of c.thread.ensures in
    let higher : c.from-2.result ≡ exec m c.args.t = c.from-2.ensures ∙ c.get-2.ensures.value ∙ c.exec.ensures in
    blocked_short c.args.decls.now c.args.t (priorities_of m c.args.t) (blocking_of (waiting_of c.args.waiting.now)) (record { assigned = omega (arith, assigned); exec = omega (arith, higher) })
    (until_short c.args.waiting.now.due c.args.until c.requires.until (omega arith))
