use Rattle.std.proofs.Common.{false, None, ap, refl, slice_set, ◌∙◌, arith, rules}
use Rattle.std.proofs.lemmas.List.{length-set}
use Rattle.rules_machine.specs.Waking.{woken}
use Rattle.parts_owners.specs.Chains.{waiting_for}
use Rattle.kernel_table.specs.Times.{refill_of, start_of, timeout_of}
use Rattle.kernel_table.proofs.Moved.{moved_tied, wait_set}
use Rattle.kernel_table.proofs.Ties.{placed}
use Rattle.kernel_table.proofs.ToldMoves.{claims_long, told}
use Rattle.kernel_table.proofs.Armed.{armed_waiting}
use Rattle.kernel_table.proofs.Runs.{sleeper_nowhere, sleeper_started}
use Rattle.kernel_table.specs.RealItems.{waits_for_reading}
use Rattle.kernel_table.proofs.RealItems.{kept_after}
use Rattle.kernel_table.proofs.table.Table.wake_sleeper.Goals as goal

pub stands_nowhere-requires-clause-nowhere : goal.stands_nowhere-requires-clause-nowhere
stands_nowhere-requires-clause-nowhere c =
    let s = c.self.inside in
    sleeper_nowhere s.threads s.chain s.waits c.args.t (rw (← c.self.view_is) at c.requires.known) (rw (← c.self.view_is) at c.requires.sleeps) c.self.invariant.tied

pub end_sleep-requires-clause-numbers : goal.end_sleep-requires-clause-numbers
end_sleep-requires-clause-numbers c = c.self.invariant.armed.numbers

pub end_sleep-requires-clause-started : goal.end_sleep-requires-clause-started
end_sleep-requires-clause-started c =
    let s = c.self.inside in
    let known = rw (← c.self.view_is) at c.requires.known in
    sleeper_started s.threads s.timers s.wheel.dues c.args.t (omega (arith, known, c.self.invariant.tied.few)) (rw (← c.self.view_is) at c.requires.sleeps) c.self.invariant.armed

pub invariant_of-self : goal.invariant_of-self
invariant_of-self c = record {
  tied = (let s = c.self.inside in
      let f = woken c.args.res c.args.value in
      let known = rw (← c.self.view_is) at c.requires.known in
      rw (c.wake.ensures, c.get_mut.ensures.value)
      (moved_tied s.threads s.chain s.chain s.waits _ s.waits c.args.t f (waiting_for None) c.stands_nowhere.ensures.chain refl
      (wait_set s.threads s.chain s.waits c.args.t f None known refl c.self.invariant.tied) c.stands_nowhere.ensures.waits c.self.invariant.tied));
  armed = (let s = c.self.inside in
      let is = c.wake.ensures ∙ ap (woken c.args.res c.args.value) c.get_mut.ensures.value in
      armed_waiting s.threads s.timers s.wheel.dues _ c.args.t c.wake.new.self None c.self.invariant.tied.few (rw (← c.self.view_is) at c.requires.known) (ap refill_of is) (ap start_of is) (ap timeout_of is) c.end_sleep.ensures c.self.invariant.armed);
  kept = (let s = c.self.inside in
      let is = c.wake.ensures ∙ ap (woken c.args.res c.args.value) c.get_mut.ensures.value in
      kept_after s.threads s.timers s.real_waits _ s.real_expiries c.args.t c.wake.new.self false (rw (← c.self.view_is) at c.requires.known) (ap waits_for_reading is) c.drop_wait.ensures c.self.invariant.kept);
}

pub returns : goal.returns
returns c = record {
  table = (search rules);
  moved = (let s = c.self.inside in
      rw (← c.self.view_is)
      (told s.timers s.threads (slice_set s.threads c.args.t c.wake.new.self) s.chain s.chain s.waits s.waits None (length-set s.threads c.args.t c.wake.new.self) c.self.invariant.tied
      (invariant_of-self c).tied (λ u known nowhere. refl)));
}

pub stands_nowhere-requires-clause-can : goal.stands_nowhere-requires-clause-can
stands_nowhere-requires-clause-can c =
    let s = c.self.inside in
    let known = rw (← c.self.view_is) at c.requires.known in
    let long = claims_long s.threads s.chain s.waits c.self.invariant.tied in
    record { known = omega (arith, known, long); placed = placed s.threads s.chain s.waits c.self.invariant.tied }
