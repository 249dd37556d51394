use Rattle.std.proofs.Common.{Some}
use Rattle.rules_bodies.specs.declared.cursor.Cursor.{Cursor}
use Rattle.rules_machine.specs.State.{Thread}
use Rattle.rules_machine.specs.Threads.{thread_in}
use Rattle.rules_machine.specs.Waking.{put_to_wait}
use Rattle.kernel_table.proofs.Runs.{again}
use Rattle.kernel_state.proofs.Carried.{as_many, fit, tied_again, told_itself, told_there}
use Rattle.kernel_state.proofs.StillModest.{waits_modestly}
use Rattle.kernel_state.proofs.Waits.{blocked_rests, can_await}
use Rattle.kernel_state.specs.View.{kernel_of}
use Rattle.kernel_state.proofs.parts.Parts.keep_blocked.Goals as goal

pub invariant_of-self : goal.invariant_of-self
invariant_of-self c =
    let s = c.self.inside in
    let w = c.block_again-moved in
    let f : Thread Cursor → Thread Cursor = put_to_wait (again c.args.k c.args.how c.args.serial (thread_in s.table.threads c.args.t)) in
    record {
      tied = tied_again s.names s.code s.ready.threads s.table.threads w.new.self.threads s.direct (as_many s.table w.new.self c.args.t f w.ensures.table) c.self.invariant.tied;
      stand = told_itself s.table w.new.self s.ready.lists s.named.bits c.args.t f w.ensures.table c.self.invariant.stand c.take_in.new.self.bits w.result
          (λ runs. blocked_rests (thread_in s.table.threads c.args.t).status (rw (← c.self.view_is) at c.requires.blocked) runs) c.take_in.ensures w.ensures.moved;
      modest = waits_modestly s.instant s.clock s.table w.new.self c.args.t (again c.args.k c.args.how c.args.serial (thread_in s.table.threads c.args.t)) w.ensures.table tt c.self.invariant.modest;
    }

pub take_in-requires : goal.take_in-requires
take_in-requires c =
    let s = c.self.inside in
    let w = c.block_again-moved in
    let f : Thread Cursor → Thread Cursor = put_to_wait (again c.args.k c.args.how c.args.serial (thread_in s.table.threads c.args.t)) in
    fit s.table w.new.self w.result (as_many s.table w.new.self c.args.t f w.ensures.table) c.self.invariant.tied.few (told_there s.table w.new.self w.result w.ensures.moved)

pub block_again-moved-requires-clause-may : goal.block_again-moved-requires-clause-may
block_again-moved-requires-clause-may c = can_await (kernel_of c.self.inside).machine c.args.t (Some c.args.k) (rw (← c.self.view_is) at c.requires.may)
