use Rattle.std.proofs.Common.{false, None, ap, refl, slice_set, ◌∙◌, rules}
use Rattle.rules_machine.specs.Waking.{woken}
use Rattle.parts_owners.specs.Chains.{waiting_for}
use Rattle.kernel_table.specs.Times.{refill_of, start_of, timeout_of}
use Rattle.kernel_table.proofs.Moved.{moved_tied, wait_set}
use Rattle.std.proofs.lemmas.List.{length-set}
use Rattle.kernel_table.proofs.ToldMoves.{told}
use Rattle.kernel_table.proofs.Armed.{armed_waiting}
use Rattle.kernel_table.specs.RealItems.{waits_for_reading}
use Rattle.kernel_table.proofs.RealItems.{kept_after}
use Rattle.kernel_table.proofs.Relinking.{can_relink}
use Rattle.kernel_table.proofs.table.Table.wake_in_full.Goals as goal

pub invariant_of-self : goal.invariant_of-self
invariant_of-self c = record {
  tied = (let s = c.self.inside in
      let f = woken c.args.res c.args.value in
      let known = rw (← c.self.view_is) at c.requires in
      rw (c.wake.ensures, c.get_mut.ensures.value)
      (moved_tied s.threads s.chain c.stop_waiting-moved.new.chain s.waits _ c.stop_waiting-moved.new.waits c.args.t f (waiting_for None) c.stop_waiting-moved.ensures.links.chain refl
      (wait_set s.threads s.chain s.waits c.args.t f None known refl c.self.invariant.tied) c.stop_waiting-moved.ensures.links.waits c.self.invariant.tied));
  armed = (let s = c.self.inside in
      let is = c.wake.ensures ∙ ap (woken c.args.res c.args.value) c.get_mut.ensures.value in
      armed_waiting s.threads s.timers s.wheel.dues _ c.args.t c.wake.new.self None c.self.invariant.tied.few (rw (← c.self.view_is) at c.requires) (ap refill_of is) (ap start_of is) (ap timeout_of is) c.time_wait.ensures c.self.invariant.armed);
  kept = (let s = c.self.inside in
      let is = c.wake.ensures ∙ ap (woken c.args.res c.args.value) c.get_mut.ensures.value in
      kept_after s.threads s.timers s.real_waits _ s.real_expiries c.args.t c.wake.new.self false (rw (← c.self.view_is) at c.requires) (ap waits_for_reading is) c.drop_wait.ensures c.self.invariant.kept);
}

pub returns : goal.returns
returns c = record {
  table = (search rules);
  moved = (let s = c.self.inside in
      rw (← c.self.view_is, c.thread_of.ensures)
      (told s.timers s.threads (slice_set s.threads c.args.t c.wake.new.self) s.chain c.stop_waiting-moved.new.chain s.waits c.stop_waiting-moved.new.waits c.stop_waiting-moved.result (length-set s.threads c.args.t c.wake.new.self) c.self.invariant.tied
      (invariant_of-self c).tied c.stop_waiting-moved.ensures.links.moved));
}

pub time_wait-requires-clause-numbers : goal.time_wait-requires-clause-numbers
time_wait-requires-clause-numbers c = c.self.invariant.armed.numbers

pub stop_waiting-moved-requires : goal.stop_waiting-moved-requires
stop_waiting-moved-requires c =
    let s = c.self.inside in
    record { can = can_relink s.threads s.chain s.waits c.args.t (rw (← c.self.view_is) at c.requires) c.self.invariant.tied }
