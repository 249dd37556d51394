use Rattle.std.proofs.Common.{◌≡◌, [], ◌∷◌, add-one, arith, codes, flat_map, length, refl, sym, take}
use Rattle.std.proofs.Math.Seq.{take-length}
use Rattle.std.proofs.lemmas.Option.{slice_get_read}
use Rattle.rules_facts.specs.Spelled.{replenishment_words}
use Rattle.script_printer.proofs.Puts.{puts_nothing}
use Rattle.kernel_texts.proofs.Lines.{told_some, words_more}
use Rattle.kernel_texts.proofs.Puts.{puts_end, puts_more}
use Rattle.kernel_texts.proofs.Modest.{planned_short}
use Rattle.kernel_texts.proofs.ShortFacts.{within_more}
use Rattle.kernel_thread_facts.proofs.threads.put_planned.Goals as goal

pub loop-r-init : goal.loop-r-init
loop-r-init g c = record { text = puts_nothing _ _ _; flag = refl; within = omega arith }

pub loop-r-preserved : goal.loop-r-preserved
loop-r-preserved g c =
    let xs = c.args.planned.now in
    let words = replenishment_words in
    let read = slice_get_read xs (length xs) c.loop-r.r-index c.r-item.result refl c.loop-r-test.true c.r-item.is in
    let more = words_more words xs c.loop-r.r-index c.r-item.result (sym read) in
    record {
      text = rw (add-one, ← more) (puts_more _ _ _ _ _ (codes "pending" ∷ c.thread_name.result.now ∷ []) (flat_map words (take c.loop-r.r-index xs)) (words c.r-item.result) c.loop-r.is_begun (omega arith) (omega arith)
          c.loop-r.invariant.flag c.loop-r.invariant.text (rw c.get.ensures.value at c.put_more.ensures.text));
      flag = rw (add-one, ← more) (told_some (flat_map words (take c.loop-r.r-index xs)) (words c.r-item.result) (omega arith));
      within = rw (add-one, ← more) (within_more (flat_map words (take c.loop-r.r-index xs)) (words c.r-item.result) c.loop-r.r-index c.loop-r.invariant.within
          (rw c.get.ensures.value at c.put_more.ensures.short));
    }

pub returns-clause-text : goal.returns-clause-text
returns-clause-text g c =
    let xs = c.args.planned.now in
    let words = replenishment_words in
    let all : c.loop-r.r-index ≡ length xs = omega arith in
    let text = rw (all, take-length) at c.loop-r.invariant.text in
    let flag = rw (all, take-length) at c.loop-r.invariant.flag in
    rw c.thread_name.ensures.name at (puts_end _ _ _ _ _ (codes "pending" ∷ c.thread_name.result.now ∷ []) (flat_map words xs) c.loop-r.is_begun flag text c.put_end.ensures)

pub returns-clause-short : goal.returns-clause-short
returns-clause-short g c =
    let xs = c.args.planned.now in
    let all : c.loop-r.r-index ≡ length xs = omega arith in
    planned_short c.args.decls.now c.args.t xs (rw (all, take-length) at c.loop-r.invariant.within)
