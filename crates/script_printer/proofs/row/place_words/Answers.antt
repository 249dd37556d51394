use Rattle.std.proofs.Common.{add-one, append-nil, arith, ◌≡◌, length, refl, sym}
use Rattle.std.proofs.Math.Seq.{take-length}
use Rattle.parts_bytes.proofs.Placed.{placed_then}
use Rattle.script_printer.proofs.Words.{blanks_more, short_here, width_left}
use Rattle.script_printer.proofs.row.place_words.Goals as goal

pub loop-word-init : goal.loop-word-init
loop-word-init c = record {
  placed = record { front = sym (append-nil _); moved = omega arith; same = refl };
  short = c.requires.short;
  room = omega arith;
}

pub place_spaced-end-requires-clause-short : goal.place_spaced-end-requires-clause-short
place_spaced-end-requires-clause-short c =
    (short_here c.args.words.now c.loop-word.word-index c.word-item.result c.word-item.result c.loop-word-test.true c.word-item.is c.loop-word.invariant.short).0

pub place_spaced-end-requires-clause-room : goal.place_spaced-end-requires-clause-room
place_spaced-end-requires-clause-room c =
    let left = width_left c.args.words.now c.loop-word.word-index c.word-item.result c.word-item.result c.loop-word-test.true c.word-item.is in
    omega (arith, left, c.loop-word.invariant.room, c.loop-word.invariant.placed.same, c.requires.room)

pub loop-word-preserved : goal.loop-word-preserved
loop-word-preserved c =
    let words = c.args.words.now in
    let i = c.loop-word.word-index in
    let w = c.word-item.result in
    let left = width_left words i w w c.loop-word-test.true c.word-item.is in
    let more = blanks_more words i w w c.loop-word-test.true c.word-item.is in
    record {
      placed = rw (add-one, ← more) (placed_then c.loop-word.invariant.placed c.place_spaced-end.ensures.placed);
      short = rw add-one (short_here words i w w c.loop-word-test.true c.word-item.is c.loop-word.invariant.short).1;
      room = rw add-one (omega (arith, left, c.loop-word.invariant.room, c.place_spaced-end.ensures.within));
    }

pub returns-clause-placed : goal.returns-clause-placed
returns-clause-placed c =
    let all : c.loop-word.word-index ≡ length c.args.words.now = omega arith in
    rw (all, take-length) at c.loop-word.invariant.placed
