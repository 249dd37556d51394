use Rattle.rules_bodies.specs.declared.cursor.Cursor.{Cursor}
use Rattle.rules_machine.specs.State.{Thread}
use Rattle.rules_machine.specs.Waking.{ending_with}
use Rattle.kernel_state.proofs.Carried.{as_many, none_thread, tied_again}
use Rattle.kernel_state.proofs.StillModest.{still_modest}
use Rattle.kernel_state.proofs.parts.Parts.begin_end.Goals as goal

pub invariant_of-self : goal.invariant_of-self
invariant_of-self c =
    let s = c.self.inside in
    let w = c.begin_end in
    let f : Thread Cursor → Thread Cursor = ending_with c.args.value in
    record {
      tied = tied_again s.names s.code s.ready.threads s.table.threads w.new.self.threads s.direct (as_many s.table w.new.self c.args.t f w.ensures.table) c.self.invariant.tied;
      stand = none_thread s.table w.new.self s.ready.lists s.named.bits c.args.t f w.ensures.table c.self.invariant.stand (λ th h. h) w.ensures.same;
      modest = still_modest s.instant s.clock s.table w.new.self c.args.t f w.ensures.table (λ th at h. h) c.self.invariant.modest;
    }
