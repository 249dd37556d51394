use Rattle.rules_bodies.specs.declared.cursor.Cursor.{Cursor}
use Rattle.rules_machine.specs.State.{Thread}
use Rattle.rules_machine.specs.Scheduling.{with_policy}
use Rattle.kernel_state.proofs.Carried.{as_many, fit, tied_again, told_there, told_thread}
use Rattle.kernel_state.proofs.StillModest.{still_modest}
use Rattle.kernel_state.proofs.parts.Parts.set_thread_policy.Goals as goal

pub invariant_of-self : goal.invariant_of-self
invariant_of-self c =
    let s = c.self.inside in
    let w = c.set_policy-moved in
    let f : Thread Cursor → Thread Cursor = with_policy c.args.new s.instant in
    record {
      tied = tied_again s.names s.code s.ready.threads s.table.threads w.new.self.threads s.direct (as_many s.table w.new.self c.args.t f w.ensures.table) c.self.invariant.tied;
      stand = told_thread s.table w.new.self s.ready.lists s.named.bits c.args.t f w.ensures.table c.self.invariant.stand c.take_in.new.self.bits w.result (λ th h. h) c.take_in.ensures w.ensures.moved;
      modest = still_modest s.instant s.clock s.table w.new.self c.args.t f w.ensures.table (λ th at h. h) c.self.invariant.modest;
    }

pub take_in-requires : goal.take_in-requires
take_in-requires c =
    let s = c.self.inside in
    let w = c.set_policy-moved in
    let f : Thread Cursor → Thread Cursor = with_policy c.args.new s.instant in
    fit s.table w.new.self w.result (as_many s.table w.new.self c.args.t f w.ensures.table) c.self.invariant.tied.few (told_there s.table w.new.self w.result w.ensures.moved)
