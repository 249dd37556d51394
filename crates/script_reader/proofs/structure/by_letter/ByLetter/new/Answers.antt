use Rattle.std.proofs.Common.{arith}
use Rattle.script_table.specs.Patterns.{rows_of}
use Rattle.script_reader.proofs.Narrowed.{serve_more}
use Rattle.script_reader.proofs.structure.by_letter.ByLetter.new.Goals as goal

pub loop-byte-preserved : goal.loop-byte-preserved
loop-byte-preserved c =
    let so_far = c.loop-byte.invariant in
    record {
      serve = rw c.in_ok-push.ensures.items (serve_more (rows_of c.args.table.now) 97 c.loop-byte.byte c.loop-byte.narrower.items c.narrowed.result so_far.place so_far.serve c.narrowed.ensures);
      place = rw c.in_ok-push.ensures.items (grind (arith, so_far.place));
    }
