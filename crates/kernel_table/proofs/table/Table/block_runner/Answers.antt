use Rattle.std.proofs.Common.{ap, slice_set, ◌∙◌, arith, rules}
use Rattle.std.proofs.lemmas.List.{length-set}
use Rattle.rules_machine.specs.Waking.{put_to_wait}
use Rattle.rules_machine.specs.State.{Waiting}
use Rattle.kernel_threads.specs.Plain.{wait_of}
use Rattle.kernel_table.specs.Times.{refill_of, start_of, timeout_of}
use Rattle.kernel_table.proofs.Moved.{begun_tied}
use Rattle.kernel_table.proofs.ToldMoves.{told}
use Rattle.kernel_table.proofs.Armed.{armed_waiting}
use Rattle.kernel_table.proofs.Relinking.{can_relink, may_await}
use Rattle.kernel_table.proofs.Runs.{runner_nowhere, runner_started, runner_unkept, runner_untimed}
use Rattle.kernel_table.specs.RealItems.{waits_for_reading}
use Rattle.kernel_table.proofs.RealItems.{kept_after}
use Rattle.kernel_table.proofs.table.Table.block_runner.Goals as goal

pub stands_nowhere-requires-clause-nowhere : goal.stands_nowhere-requires-clause-nowhere
stands_nowhere-requires-clause-nowhere c =
    let s = c.self.inside in
    runner_nowhere s.threads s.chain s.waits c.args.t (rw (← c.self.view_is) at c.requires.known) (rw (← c.self.view_is) at c.requires.runs) c.self.invariant.tied

pub time_runner-requires-clause-numbers : goal.time_runner-requires-clause-numbers
time_runner-requires-clause-numbers c = c.self.invariant.armed.numbers

pub time_runner-requires-clause-started : goal.time_runner-requires-clause-started
time_runner-requires-clause-started c =
    let s = c.self.inside in
    let known = rw (← c.self.view_is) at c.requires.known in
    runner_started s.threads s.timers s.wheel.dues c.args.t (omega (arith, known, c.self.invariant.tied.few)) (rw (← c.self.view_is) at c.requires.runs) c.self.invariant.armed

pub time_runner-requires-clause-runs : goal.time_runner-requires-clause-runs
time_runner-requires-clause-runs c =
    let s = c.self.inside in
    let known = rw (← c.self.view_is) at c.requires.known in
    runner_untimed s.threads s.timers s.wheel.dues c.args.t (omega (arith, known, c.self.invariant.tied.few)) (rw (← c.self.view_is) at c.requires.runs) c.self.invariant.armed

pub invariant_of-self : goal.invariant_of-self
invariant_of-self c = record {
  tied = (let s = c.self.inside in
      let w : Waiting = record { wait = wait_of c.args.wait.now; serial = c.args.serial; due = c.args.due.now; call = c.args.call.now } in
      let known = rw (← c.self.view_is) at c.requires.known in
      begun_tied s.threads s.chain s.chain c.begin_waiting-moved.new.chain s.waits s.waits c.begin_waiting-moved.new.waits c.args.t w c.block.new.self known
      (c.block.ensures ∙ ap (put_to_wait w) c.get_mut.ensures.value) c.stands_nowhere.ensures.chain c.stands_nowhere.ensures.waits c.begin_waiting-moved.ensures.chain c.begin_waiting-moved.ensures.waits c.self.invariant.tied);
  armed = (let s = c.self.inside in
      let is = c.block.ensures ∙ ap (put_to_wait (record { wait = wait_of c.args.wait.now; serial = c.args.serial; due = c.args.due.now; call = c.args.call.now })) c.get_mut.ensures.value in
      armed_waiting s.threads s.timers s.wheel.dues _ c.args.t c.block.new.self c.args.due.now c.self.invariant.tied.few (rw (← c.self.view_is) at c.requires.known) (ap refill_of is) (ap start_of is) (ap timeout_of is) c.time_runner.ensures c.self.invariant.armed);
  kept = (let s = c.self.inside in
      let is = c.block.ensures ∙ ap (put_to_wait (record { wait = wait_of c.args.wait.now; serial = c.args.serial; due = c.args.due.now; call = c.args.call.now })) c.get_mut.ensures.value in
      kept_after s.threads s.timers s.real_waits _ s.real_expiries c.args.t c.block.new.self _ (rw (← c.self.view_is) at c.requires.known) (ap waits_for_reading is) c.keep_runner.ensures c.self.invariant.kept);
}

pub returns : goal.returns
returns c = record {
  table = (search rules);
  moved = (let s = c.self.inside in
      let b = c.begin_waiting-moved in
      rw (← c.self.view_is, c.thread_of.ensures)
      (told s.timers s.threads (slice_set s.threads c.args.t c.block.new.self) s.chain b.new.chain s.waits b.new.waits b.result (length-set s.threads c.args.t c.block.new.self) c.self.invariant.tied
      (invariant_of-self c).tied b.ensures.moved));
}

pub stands_nowhere-requires-clause-can : goal.stands_nowhere-requires-clause-can
stands_nowhere-requires-clause-can c =
    let s = c.self.inside in
    can_relink s.threads s.chain s.waits c.args.t (rw (← c.self.view_is) at c.requires.known) c.self.invariant.tied

pub keep_runner-requires-clause-thread : goal.keep_runner-requires-clause-thread
keep_runner-requires-clause-thread c = let known = rw (← c.self.view_is) at c.requires.known in omega (arith, known, c.self.invariant.tied.few)

pub keep_runner-requires-clause-runs : goal.keep_runner-requires-clause-runs
keep_runner-requires-clause-runs c =
    let s = c.self.inside in
    runner_unkept s.threads s.timers s.real_waits s.real_expiries c.args.t (rw (← c.self.view_is) at c.requires.runs) c.self.invariant.kept

pub get_mut-requires : goal.get_mut-requires
get_mut-requires c = rw (← c.self.view_is) at c.requires.known

pub begin_waiting-moved-requires-clause-can : goal.begin_waiting-moved-requires-clause-can
begin_waiting-moved-requires-clause-can c =
    let s = c.self.inside in
    can_relink s.threads s.chain s.waits c.args.t (rw (← c.self.view_is) at c.requires.known) c.self.invariant.tied

pub begin_waiting-moved-requires-clause-nowhere : goal.begin_waiting-moved-requires-clause-nowhere
begin_waiting-moved-requires-clause-nowhere c =
    let s = c.self.inside in
    runner_nowhere s.threads s.chain s.waits c.args.t (rw (← c.self.view_is) at c.requires.known) (rw (← c.self.view_is) at c.requires.runs) c.self.invariant.tied

pub begin_waiting-moved-requires-clause-may : goal.begin_waiting-moved-requires-clause-may
begin_waiting-moved-requires-clause-may c =
    let s = c.self.inside in
    may_await s.timers s.threads s.chain s.waits c.args.t _ c.self.invariant.tied (rw (← c.self.view_is) at c.requires.may)

pub time_runner-requires-clause-thread : goal.time_runner-requires-clause-thread
time_runner-requires-clause-thread c = let known = rw (← c.self.view_is) at c.requires.known in omega (arith, known, c.self.invariant.tied.few)
