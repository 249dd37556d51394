use Rattle.std.proofs.Common.{◌≡◌, [], ◌∷◌, add-one, append-nil, ap, arith, codes, false, flat_map, length, refl, sym, take, true, ◌∙◌}
use Rattle.std.proofs.Math.Seq.{take-length}
use Rattle.std.proofs.lemmas.Option.{slice_get_read}
use Rattle.rules_machine.specs.Threads.{is_main}
use Rattle.rules_facts.specs.Spelled.{body_name}
use Rattle.script_printer.proofs.Puts.{puts_nothing}
use Rattle.kernel_texts.specs.Lines.{frame_words}
use Rattle.kernel_texts.proofs.Lines.{frames_told, inner_words, main_words, told_some, words_more}
use Rattle.kernel_texts.proofs.Puts.{puts_end, puts_more}
use Rattle.kernel_thread_facts.proofs.threads.put_inner_frames.Goals as goal
use Rattle.kernel_thread_facts.proofs.threads.put_inner_frames.Goals.{then-not-is_main, else-not-is_main}

pub loop-frame-init : goal.loop-frame-init
loop-frame-init g c = record { text = puts_nothing _ _ _; flag = refl }

pub loop-frame-preserved : goal.loop-frame-preserved
loop-frame-preserved g c =
    let xs = c.args.frames.now in
    let words = frame_words c.args.decls.now in
    let told = flat_map words (take c.loop-frame.frame-index xs) in
    let read = slice_get_read xs (length xs) c.loop-frame.frame-index c.frame-item.result refl c.loop-frame-test.true c.frame-item.is in
    let more = words_more words xs c.loop-frame.frame-index c.frame-item.result (sym read) in
    let about = codes "frames" ∷ c.thread_name.result.now ∷ [] in
    elim c.if-not-is_main.branch [
      | then-not-is_main w ↦
          (let inner : is_main c.frame-item.result.kind ≡ false = ap is_main (sym c.kind.ensures) ∙ sym c.is_main.ensures ∙ w.if-not-is_main.true in
          let here = inner_words c.args.decls.now c.frame-item.result inner in
          let name : w.body_name.result.now ≡ body_name c.args.decls.now c.frame-item.result.body = w.body_name.ensures.name ∙ ap (body_name c.args.decls.now) w.body.ensures in
          record {
            text = rw (w.out-is, add-one, ← more, here) (puts_more _ _ _ _ _ about told (body_name c.args.decls.now c.frame-item.result.body ∷ []) c.loop-frame.is_begun
                (omega arith) (omega arith) c.loop-frame.invariant.flag c.loop-frame.invariant.text (rw name at w.put_more.ensures.text));
            flag = rw (w.is_begun-is, add-one, ← more, here) (told_some told (body_name c.args.decls.now c.frame-item.result.body ∷ []) (omega arith));
          })
      | else-not-is_main w ↦
          (let main : is_main c.frame-item.result.kind ≡ true = ap is_main (sym c.kind.ensures) ∙ sym c.is_main.ensures ∙ w.if-not-is_main.false in
          let here = main_words c.args.decls.now c.frame-item.result main in
          record {
            text = rw (w.out-is, add-one, ← more, here, append-nil) c.loop-frame.invariant.text;
            flag = rw (w.is_begun-is, add-one, ← more, here, append-nil) c.loop-frame.invariant.flag;
          })
    ]

pub returns : goal.returns
returns g c =
    let xs = c.args.frames.now in
    let words = frame_words c.args.decls.now in
    let about = codes "frames" ∷ c.thread_name.result.now ∷ [] in
    let all : c.loop-frame.frame-index ≡ length xs = omega arith in
    let text = rw (all, take-length) at c.loop-frame.invariant.text in
    let flag = rw (all, take-length) at c.loop-frame.invariant.flag in
    rw (frames_told c.args.decls.now xs, c.thread_name.ensures.name) at (puts_end _ _ _ _ _ about (flat_map words xs) c.loop-frame.is_begun flag text c.put_end.ensures)
