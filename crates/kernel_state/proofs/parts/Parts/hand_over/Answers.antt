use Rattle.std.proofs.Common.{arith}
use Rattle.rules_bodies.specs.declared.cursor.Cursor.{Cursor}
use Rattle.rules_machine.specs.Mutexes.{freed, taken_by}
use Rattle.rules_machine.specs.State.{Thread}
use Rattle.rules_machine.specs.Waking.{woken}
use Rattle.kernel_state.proofs.Carried.{fit, handed_many, handed_named, released_there, tied_again, woken_there}
use Rattle.kernel_state.proofs.StillModest.{handed_modest}
use Rattle.kernel_state.proofs.parts.Parts.hand_over.Goals as goal

pub invariant_of-self : goal.invariant_of-self
invariant_of-self c =
    let s = c.self.inside in
    let w = c.hand_over-released in
    let f : Thread Cursor → Thread Cursor = woken c.args.res c.args.value in
    let known = rw (← c.self.view_is) at c.requires.known in
    record {
      tied = tied_again s.names s.code s.ready.threads s.table.threads w.new.self.threads s.direct (handed_many s.table w.new.self c.args.k c.args.t (taken_by c.args.t) f w.ensures.table) c.self.invariant.tied;
      stand = handed_named s.table w.new.self c.args.k c.args.t (taken_by c.args.t) f w.ensures.table s.ready.lists s.named.bits c.add.new.self.bits c.take_in.new.self.bits c.take_in-2.new.self.bits
          w.result.0 w.result.1 c.self.invariant.stand (omega (arith, known, c.self.invariant.tied.named)) c.add.ensures c.take_in.ensures c.take_in-2.ensures
          (released_there s.table w.new.self c.args.k c.args.t (taken_by c.args.t) f w.ensures.table freed w.result.0 w.ensures.released)
          (woken_there s.table w.new.self c.args.k c.args.t (taken_by c.args.t) f w.ensures.table freed w.result.1 w.ensures.woken) w.ensures.others;
      modest = handed_modest s.instant s.clock s.table w.new.self c.args.k c.args.t (taken_by c.args.t) f w.ensures.table (λ th at h. absurd cc) c.self.invariant.modest;
    }

pub take_in-requires : goal.take_in-requires
take_in-requires c =
    let s = c.self.inside in
    let w = c.hand_over-released in
    let f : Thread Cursor → Thread Cursor = woken c.args.res c.args.value in
    fit s.table w.new.self w.result.0 (handed_many s.table w.new.self c.args.k c.args.t (taken_by c.args.t) f w.ensures.table) c.self.invariant.tied.few
    (released_there s.table w.new.self c.args.k c.args.t (taken_by c.args.t) f w.ensures.table freed w.result.0 w.ensures.released)

pub take_in-requires-2 : goal.take_in-requires-2
take_in-requires-2 c =
    let s = c.self.inside in
    let w = c.hand_over-released in
    let f : Thread Cursor → Thread Cursor = woken c.args.res c.args.value in
    fit s.table w.new.self w.result.1 (handed_many s.table w.new.self c.args.k c.args.t (taken_by c.args.t) f w.ensures.table) c.self.invariant.tied.few
    (woken_there s.table w.new.self c.args.k c.args.t (taken_by c.args.t) f w.ensures.table freed w.result.1 w.ensures.woken)
