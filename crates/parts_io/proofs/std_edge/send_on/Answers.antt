use Rattle.std.proofs.Common.{arith}
use Rattle.std.proofs.lemmas.Grind.{common_steps}
use Rattle.std.proofs.lemmas.List.{take_rest}
use Rattle.parts_io.proofs.Known.{appends_on}
use Rattle.parts_io.proofs.std_edge.send_on.Goals as goal

pub loop-done-preserved : goal.loop-done-preserved
loop-done-preserved g c = record {
  in_range = grind (arith, common_steps);
  written = appends_on _ _ _ c.args.bytes.now c.loop-done.done c.in-Ok.count c.loop-done.invariant.written
      (rw (take_rest c.args.bytes.now c.loop-done.done) at c.in-Ok.ensures.bytes);
}
