use Rattle.std.proofs.Common.{◌≡◌, ◌<◌, ◌^◌, ◌∷◌, [], add-one, ap, append-nil, arith, codes, flat_map, sym, take, ◌∙◌}
use Rattle.words_numbers.specs.Words.{sig_code_text, signal_word}
use Rattle.rules_facts.specs.Signals.{pending_of}
use Rattle.rules_facts.specs.Spelled.{pending_words, target_word}
use Rattle.kernel_texts.proofs.Lines.{told_some, words_all, words_more}
use Rattle.kernel_texts.specs.Picked.{words_of}
use Rattle.kernel_texts.proofs.Picked.{no_words, records_told, told_words}
use Rattle.rules_machine.specs.State.{SignalRecord}
use Rattle.kernel_texts.proofs.Puts.{puts_end, puts_more}
use Rattle.kernel_texts.proofs.ShortFacts.{all_more, all_taken, signal_short}
use Rattle.kernel_object_facts.proofs.signals.put_signal.Goals as goal
use Rattle.kernel_object_facts.proofs.signals.put_signal.Goals.{then-is_told, else-is_told}

pub loop-r-preserved : goal.loop-r-preserved
loop-r-preserved g c =
    let pending = c.args.parts.now.machine.pending in
    let words = words_of c.args.decls.now c.args.left_out c.args.signal in
    let told = flat_map words (take c.loop-r.place pending) in
    let r = c.in-Some.r in
    let more = words_more words pending c.loop-r.place r c.in-Some.ensures.value in
    let about = codes "signal" ∷ signal_word c.args.signal ∷ [] in
    let fits : r.value < 2 ^ 64 = omega (arith, c.value-value.ensures) in
    let known = all_more (λ (x : SignalRecord). x.value < 2 ^ 64) pending c.loop-r.place r c.in-Some.ensures.value c.loop-r.invariant.values fits in
    elim c.if-is_told.branch [
      | then-is_told w ↦
          (let here = told_words c.args.decls.now c.args.left_out c.args.signal r (sym c.is_told.ensures ∙ w.if-is_told.true) in
          let code : w.as_bytes.result.now ≡ sig_code_text r.code = w.as_bytes.ensures.value ∙ w.text.ensures ∙ ap sig_code_text w.code.ensures in
          let target : w.target_word.result.now ≡ target_word c.args.decls.now r.target = w.target_word.ensures.word ∙ ap (target_word c.args.decls.now) w.target.ensures in
          record {
            text = rw (w.out-is, add-one, ← more, here) (puts_more _ _ _ _ _ about told (pending_words c.args.decls.now (pending_of r)) c.loop-r.is_begun
                (omega arith) (omega arith) c.loop-r.invariant.flag c.loop-r.invariant.text (rw (code, c.value-value.ensures, target) at w.put_more.ensures.text));
            flag = rw (w.is_begun-is, add-one, ← more, here) (told_some told (pending_words c.args.decls.now (pending_of r)) (omega arith));
            values = rw add-one known;
          })
      | else-is_told w ↦
          (let here = no_words c.args.decls.now c.args.left_out c.args.signal r (sym c.is_told.ensures ∙ w.if-is_told.false) in
          record {
            text = rw (w.out-is, add-one, ← more, here, append-nil) c.loop-r.invariant.text;
            flag = rw (w.is_begun-is, add-one, ← more, here, append-nil) c.loop-r.invariant.flag;
            values = rw add-one known;
          })
    ]

pub returns-clause-text : goal.returns-clause-text
returns-clause-text g c =
    let pending = c.args.parts.now.machine.pending in
    let words = words_of c.args.decls.now c.args.left_out c.args.signal in
    let all = words_all words pending c.loop-r.place c.in_default.ensures.value in
    let text = rw all at c.loop-r.invariant.text in
    let flag = rw all at c.loop-r.invariant.flag in
    rw (records_told c.args.decls.now c.args.left_out c.args.signal pending) at
    (puts_end _ _ _ _ _ (codes "signal" ∷ signal_word c.args.signal ∷ []) (flat_map words pending) c.loop-r.is_begun flag text c.put_end.ensures)

pub returns-clause-short : goal.returns-clause-short
returns-clause-short g c =
    let m = c.args.parts.now.machine in
    signal_short c.args.decls.now m c.args.left_out c.args.signal (omega arith)
    (all_taken (λ (x : SignalRecord). x.value < 2 ^ 64) m.pending c.loop-r.place c.in_default.ensures.value c.loop-r.invariant.values)
