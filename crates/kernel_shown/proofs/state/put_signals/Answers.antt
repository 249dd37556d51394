use Rattle.std.proofs.Common.{◌≡◌, ℕ, Option, add-one, arith, length, subst}
use Rattle.rules_facts.specs.Signals.{signal_fact}
use Rattle.script_printer.specs.Puts.{Puts}
use Rattle.script_printer.proofs.Puts.{puts_both}
use Rattle.kernel_texts.specs.Lines.{fact_text, texts_below}
use Rattle.kernel_texts.specs.Picked.{left_in}
use Rattle.kernel_shown.proofs.state.put_signals.Goals as goal

pub loop-signal-preserved : goal.loop-signal-preserved
loop-signal-preserved g c = rw add-one (puts_both _ _ _ _ _ _ _ c.loop-signal.invariant (c.put_signal.ensures.text))

pub returns : goal.returns
returns g c =
    let m = c.args.parts.now.machine in
    let all : c.loop-signal.signal ≡ length m.actions = omega (arith, c.know_rows.ensures.signals) in
    let put = rw all at c.loop-signal.invariant in
    subst (λ (o : Option ℕ). Puts g.K.Sink.text g.K.Sink.faults c.args.out.now c.loop-signal.out
    (texts_below (λ (s : ℕ). fact_text c.args.decls.now (signal_fact (left_in o m) s)) (length m.actions))) c.left_out-out_of_it.ensures put
