use Rattle.std.proofs.Common.{add-one, arith, ◌≡◌, length}
use Rattle.std.proofs.Math.Seq.{take-length}
use Rattle.script_printer.proofs.Words.{width_more}
use Rattle.script_printer.proofs.row.have_room.Goals as goal

pub loop-word-preserved : goal.loop-word-preserved
loop-word-preserved c =
    let more = width_more c.args.words.now c.loop-word.word-index c.word-item.result c.word-item.result c.loop-word-test.true c.word-item.is in
    rw (add-one, more) (omega (arith, c.width-taken.ensures, c.loop-word.invariant))

pub returns : goal.returns
returns c _ =
    let all : c.loop-word.word-index ≡ length c.args.words.now = omega arith in
    let whole = rw (all, take-length) at c.loop-word.invariant in
    omega (arith, whole)
