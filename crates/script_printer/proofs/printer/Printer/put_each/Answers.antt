use Rattle.std.proofs.Common.{add-one, arith, ◌≡◌, length}
use Rattle.std.proofs.Math.Seq.{take-length}
use Rattle.script_printer.proofs.Puts.{puts_both}
use Rattle.script_printer.proofs.Words.{blanks_more, short_here, within_more}
use Rattle.script_printer.proofs.printer.Printer.put_each.Goals as goal

pub put_word-requires : goal.put_word-requires
put_word-requires g c =
    (short_here c.args.words.now c.loop-word.word-index c.word-item.result c.word-item.result c.loop-word-test.true c.word-item.is c.loop-word.invariant.short).0

pub loop-word-preserved : goal.loop-word-preserved
loop-word-preserved g c =
    let more = blanks_more c.args.words.now c.loop-word.word-index c.word-item.result c.word-item.result c.loop-word-test.true c.word-item.is in
    let short = short_here c.args.words.now c.loop-word.word-index c.word-item.result c.word-item.result c.loop-word-test.true c.word-item.is c.loop-word.invariant.short in
    record {
      text = rw (add-one, ← more) (puts_both _ _ _ _ _ _ _ c.loop-word.invariant.text (puts_both _ _ _ _ _ _ _ c.put.ensures c.put_word.ensures.text));
      short = rw add-one short.1;
      within = rw add-one (within_more c.args.words.now c.loop-word.word-index c.word-item.result c.word-item.result c.loop-word-test.true c.word-item.is c.put_word.ensures.short c.loop-word.invariant.within);
    }

pub returns-clause-text : goal.returns-clause-text
returns-clause-text g c =
    let all : c.loop-word.word-index ≡ length c.args.words.now = omega arith in
    rw (all, take-length) at c.loop-word.invariant.text

pub returns-clause-short : goal.returns-clause-short
returns-clause-short g c =
    let all : c.loop-word.word-index ≡ length c.args.words.now = omega arith in
    rw (all, take-length) at c.loop-word.invariant.within
