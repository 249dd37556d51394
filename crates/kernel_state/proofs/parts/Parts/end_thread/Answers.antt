use Rattle.std.proofs.Common.{arith}
use Rattle.rules_bodies.specs.declared.cursor.Cursor.{Cursor}
use Rattle.rules_machine.specs.State.{Thread}
use Rattle.rules_machine.specs.Lives.{without_life}
use Rattle.kernel_state.proofs.Carried.{as_many, beside_keeps, beside_there, fit, self_thread, tied_again}
use Rattle.kernel_state.proofs.StillModest.{still_modest}
use Rattle.kernel_state.proofs.parts.Parts.end_thread.Goals as goal

pub invariant_of-self : goal.invariant_of-self
invariant_of-self c =
    let s = c.self.inside in
    let w = c.end-moved in
    let f : Thread Cursor → Thread Cursor = without_life in
    let known = rw (← c.self.view_is) at c.requires in
    record {
      tied = tied_again s.names s.code s.ready.threads s.table.threads w.new.self.threads s.direct (as_many s.table w.new.self c.args.t f w.ensures.table) c.self.invariant.tied;
      stand = self_thread s.table w.new.self s.ready.lists s.named.bits c.args.t f w.ensures.table c.self.invariant.stand c.add.new.self.bits c.take_in.new.self.bits w.result
          (omega (arith, known, c.self.invariant.tied.named)) c.add.ensures c.take_in.ensures (beside_there c.args.t s.table w.new.self w.result w.ensures.moved) (beside_keeps c.args.t s.table w.new.self w.result w.ensures.moved);
      modest = still_modest s.instant s.clock s.table w.new.self c.args.t f w.ensures.table (λ th at h. absurd cc) c.self.invariant.modest;
    }

pub take_in-requires : goal.take_in-requires
take_in-requires c =
    let s = c.self.inside in
    let w = c.end-moved in
    let f : Thread Cursor → Thread Cursor = without_life in
    fit s.table w.new.self w.result (as_many s.table w.new.self c.args.t f w.ensures.table) c.self.invariant.tied.few (beside_there c.args.t s.table w.new.self w.result w.ensures.moved)
