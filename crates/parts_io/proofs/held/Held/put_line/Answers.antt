use Rattle.std.proofs.Common.{arith}
use Rattle.std.proofs.lemmas.List.{with_items_is}
use Rattle.parts_bytes.proofs.Placed.{held_grows}
use Rattle.parts_io.proofs.held.Held.put_line.Goals as goal

pub returns-clause-taken : goal.returns-clause-taken
returns-clause-taken g c =
    let held = c.self.inside in
    let done = c.place-self-inside in
    held_grows (with_items_is held.bytes done.new.buf (omega arith)) c.as_mut_slice.ensures.value c.self.view_is c.self.invariant.0
    c.self.invariant.1 done.ensures.placed
