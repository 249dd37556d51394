use Rattle.std.proofs.Common.{ap, option_map, refl, slice_set, ◌∙◌, rules, arith}
use Rattle.rules_server.specs.Server.{plan}
use Rattle.rules_machine.specs.Servers.{with_server}
use Rattle.kernel_table.specs.Times.{start_of, timeout_of}
use Rattle.kernel_table.proofs.Ties.{placed}
use Rattle.kernel_table.proofs.Moved.{reassigned_tied}
use Rattle.rules_bodies.specs.declared.cursor.Cursor.{Cursor}
use Rattle.rules_machine.specs.State.{Thread}
use Rattle.rules_machine.specs.Threads.{no_thread}
use Rattle.kernel_threads.specs.Ends.{planned_of}
use Rattle.kernel_table.proofs.Planning.{planned}
use Rattle.std.proofs.lemmas.List.{get_or-set_same, length-set}
use Rattle.kernel_table.proofs.ToldMoves.{claims_long, told}
use Rattle.kernel_table.proofs.Armed.{armed_refilled}
use Rattle.kernel_table.proofs.RealItems.{still_kept}
use Rattle.kernel_table.proofs.table.Table.plan.Goals as goal

pub invariant_of-self : goal.invariant_of-self
invariant_of-self c = record {
  tied = (let s = c.self.inside in
      let f = with_server plan in
      let known = rw (← c.self.view_is) at c.requires.known in
      reassigned_tied s.threads s.chain c.take_plan-moved.new.chain s.waits c.take_plan-moved.new.waits c.args.t f c.plan_next-planned.new.self known
      (c.plan_next-planned.ensures.thread ∙ ap f c.get_mut.ensures.value) (λ th. refl) c.take_plan-moved.ensures.links.chain c.take_plan-moved.ensures.links.waits c.self.invariant.tied);
  armed = (let s = c.self.inside in
      let is = c.plan_next-planned.ensures.thread ∙ ap (with_server plan) c.get_mut.ensures.value in
      armed_refilled s.threads s.timers s.wheel.dues _ c.args.t c.plan_next-planned.new.self c.self.invariant.tied.few (rw (← c.self.view_is) at c.requires.known) (ap start_of is) (ap timeout_of is) c.take_plan-moved.ensures.dues c.self.invariant.armed);
  kept = (let s = c.self.inside in
      let is = c.plan_next-planned.ensures.thread ∙ ap (with_server plan) c.get_mut.ensures.value in
      rw is (still_kept s.threads s.timers s.real_waits s.real_expiries c.args.t (with_server plan) (λ th. refl) c.self.invariant.kept));
}

pub take_plan-moved-requires-clause-can : goal.take_plan-moved-requires-clause-can
take_plan-moved-requires-clause-can c =
    let s = c.self.inside in
    let known = rw (← c.self.view_is) at c.requires.known in
    let long = claims_long s.threads s.chain s.waits c.self.invariant.tied in
    record { known = omega (arith, known, long); placed = placed c.self.inside.threads c.self.inside.chain c.self.inside.waits c.self.invariant.tied }

pub returns-clause-change : goal.returns-clause-change
returns-clause-change c = record {
  table = (search rules);
  moved = (let s = c.self.inside in
      rw (← c.self.view_is, c.thread_of.ensures)
      (told s.timers s.threads (slice_set s.threads c.args.t c.plan_next-planned.new.self) s.chain c.take_plan-moved.new.chain s.waits c.take_plan-moved.new.waits c.take_plan-moved.result (length-set s.threads c.args.t c.plan_next-planned.new.self) c.self.invariant.tied
      (invariant_of-self c).tied c.take_plan-moved.ensures.links.moved));
}

pub take_plan-moved-requires-clause-numbers : goal.take_plan-moved-requires-clause-numbers
take_plan-moved-requires-clause-numbers c = c.self.invariant.armed.numbers

pub take_plan-moved-requires-clause-planned : goal.take_plan-moved-requires-clause-planned
take_plan-moved-requires-clause-planned c =
    let s = c.self.inside in
    let known = rw (← c.self.view_is) at c.requires.known in
    let p = c.plan_next-planned in
    rw (get_or-set_same s.threads c.args.t p.new.self no_thread known)
    (planned s.threads s.chain s.waits s.timers s.wheel.dues c.args.t p.new.self p.result known c.self.invariant.tied c.self.invariant.armed
    (p.ensures.value ∙ ap (λ (th : Thread Cursor). option_map planned_of th.server) c.get_mut.ensures.value)
    (p.ensures.thread ∙ ap (with_server plan) c.get_mut.ensures.value))
