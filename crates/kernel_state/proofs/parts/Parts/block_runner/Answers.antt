use Rattle.std.proofs.Common.{arith}
use Rattle.rules_bodies.specs.declared.cursor.Cursor.{Cursor}
use Rattle.rules_machine.specs.State.{Thread}
use Rattle.rules_machine.specs.Waking.{put_to_wait}
use Rattle.kernel_threads.specs.Plain.{wait_of}
use Rattle.kernel_state.proofs.Carried.{as_many, fit, self_thread, tied_again, told_keeps, told_there}
use Rattle.kernel_state.proofs.StillModest.{waits_modestly}
use Rattle.kernel_state.proofs.parts.Parts.block_runner.Goals as goal

pub invariant_of-self : goal.invariant_of-self
invariant_of-self c =
    let s = c.self.inside in
    let w = c.block_runner-moved in
    let f : Thread Cursor → Thread Cursor = put_to_wait (record { wait = wait_of c.args.wait.now; serial = c.args.serial; due = c.args.due.now; call = c.args.call.now }) in
    let known = rw (← c.self.view_is) at c.requires.caller.known in
    record {
      tied = tied_again s.names s.code s.ready.threads s.table.threads w.new.self.threads s.direct (as_many s.table w.new.self c.args.t f w.ensures.table) c.self.invariant.tied;
      stand = self_thread s.table w.new.self s.ready.lists s.named.bits c.args.t f w.ensures.table c.self.invariant.stand c.add.new.self.bits c.take_in.new.self.bits w.result
          (omega (arith, known, c.self.invariant.tied.named)) c.add.ensures c.take_in.ensures (told_there s.table w.new.self w.result w.ensures.moved) (told_keeps c.args.t s.table w.new.self w.result w.ensures.moved);
      modest = waits_modestly s.instant s.clock s.table w.new.self c.args.t (record { wait = wait_of c.args.wait.now; serial = c.args.serial; due = c.args.due.now; call = c.args.call.now }) w.ensures.table (rw (← c.self.view_is) at c.requires.modest) c.self.invariant.modest;
    }

pub take_in-requires : goal.take_in-requires
take_in-requires c =
    let s = c.self.inside in
    let w = c.block_runner-moved in
    let f : Thread Cursor → Thread Cursor = put_to_wait (record { wait = wait_of c.args.wait.now; serial = c.args.serial; due = c.args.due.now; call = c.args.call.now }) in
    fit s.table w.new.self w.result (as_many s.table w.new.self c.args.t f w.ensures.table) c.self.invariant.tied.few (told_there s.table w.new.self w.result w.ensures.moved)
