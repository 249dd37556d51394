use Rattle.std.proofs.Common.{◌≡◌, ℕ, [], ◌∷◌, add-one, arith, codes, flat_map, length, refl, sym, take}
use Rattle.std.proofs.Math.Seq.{take-length}
use Rattle.std.proofs.lemmas.Option.{slice_get_read}
use Rattle.words_script.specs.declared.name_kind.NameKind.TheVariants as kind
use Rattle.script_writer.specs.Names.{name_of}
use Rattle.script_writer.specs.Canon.{Words}
use Rattle.script_printer.proofs.Puts.{puts_nothing}
use Rattle.kernel_texts.proofs.Lines.{one_each, told_some, words_more}
use Rattle.kernel_texts.proofs.Puts.{puts_end, puts_more}
use Rattle.kernel_thread_facts.proofs.threads.put_handlers.Goals as goal

pub loop-u-init : goal.loop-u-init
loop-u-init g c = record { text = puts_nothing _ _ _; flag = refl }

pub loop-u-preserved : goal.loop-u-preserved
loop-u-preserved g c =
    let xs = c.args.handlers.now in
    let words = λ (u : ℕ). let all : Words = name_of c.args.decls.now kind.Cleanup u ∷ [] in all in
    let read = slice_get_read xs (length xs) c.loop-u.u-index c.u-item.result refl c.loop-u-test.true c.u-item.is in
    let more = words_more words xs c.loop-u.u-index c.u-item.result (sym read) in
    record {
      text = rw (add-one, ← more) (puts_more _ _ _ _ _ (codes "cleanups" ∷ c.thread_name.result.now ∷ []) (flat_map words (take c.loop-u.u-index xs)) (words c.u-item.result) c.loop-u.is_begun (omega arith) (omega arith)
          c.loop-u.invariant.flag c.loop-u.invariant.text (rw c.object_name.ensures.name at c.put_more.ensures.text));
      flag = rw (add-one, ← more) (told_some (flat_map words (take c.loop-u.u-index xs)) (words c.u-item.result) (omega arith));
    }

pub returns : goal.returns
returns g c =
    let xs = c.args.handlers.now in
    let words = λ (u : ℕ). let all : Words = name_of c.args.decls.now kind.Cleanup u ∷ [] in all in
    let all : c.loop-u.u-index ≡ length xs = omega arith in
    let each = one_each (name_of c.args.decls.now kind.Cleanup) xs in
    let text = rw (all, take-length) at c.loop-u.invariant.text in
    let flag = rw (all, take-length) at c.loop-u.invariant.flag in
    rw (each, c.thread_name.ensures.name) at (puts_end _ _ _ _ _ (codes "cleanups" ∷ c.thread_name.result.now ∷ []) (flat_map words xs) c.loop-u.is_begun flag text c.put_end.ensures)
