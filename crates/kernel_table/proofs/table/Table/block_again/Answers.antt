use Rattle.std.proofs.Common.{None, ap, arith, length, slice_set, subst, ◌∙◌, rules}
use Rattle.rules_machine.specs.Threads.{thread_in}
use Rattle.kernel_table.specs.Times.{refill_of, start_of, timeout_of}
use Rattle.kernel_table.proofs.Moved.{begun_tied}
use Rattle.std.proofs.lemmas.List.{length-set}
use Rattle.parts_owners.specs.Chains.{Links, exec_of}
use Rattle.parts_owners.specs.Moves.{TellsMoved}
use Rattle.kernel_table.proofs.ToldMoves.{same_links, told}
use Rattle.kernel_table.proofs.Ties.{awaits_none}
use Rattle.kernel_table.proofs.Armed.{armed_waiting}
use Rattle.kernel_table.specs.RealItems.{waits_for_reading}
use Rattle.kernel_table.proofs.RealItems.{kept_after}
use Rattle.kernel_table.proofs.Relinking.{can_relink}
use Rattle.kernel_table.proofs.Runs.{again, blocked_started, waits_again}
use Rattle.kernel_table.proofs.table.Table.block_again.Goals as goal

pub invariant_of-self : goal.invariant_of-self
invariant_of-self c = record {
  tied = (let s = c.self.inside in
      let w = again c.args.k c.args.how c.args.serial (thread_in s.threads c.args.t) in
      let known = rw (← c.self.view_is) at c.requires.known in
      begun_tied s.threads s.chain c.stop_waiting.new.chain c.await_mutex-moved.new.chain s.waits c.stop_waiting.new.waits c.await_mutex-moved.new.waits c.args.t w c.block_again.new.self known
      (waits_again c.args.k c.args.how c.args.serial c.block_again.new.self _ (thread_in s.threads c.args.t) c.block_again.ensures c.get_mut.ensures.value) c.stop_waiting.ensures.links.chain c.stop_waiting.ensures.links.waits c.await_mutex-moved.ensures.chain c.await_mutex-moved.ensures.waits c.self.invariant.tied);
  armed = (let s = c.self.inside in
      let is = waits_again c.args.k c.args.how c.args.serial c.block_again.new.self _ (thread_in s.threads c.args.t) c.block_again.ensures c.get_mut.ensures.value in
      armed_waiting s.threads s.timers s.wheel.dues _ c.args.t c.block_again.new.self None c.self.invariant.tied.few (rw (← c.self.view_is) at c.requires.known) (ap refill_of is) (ap start_of is) (ap timeout_of is) c.end_sleep.ensures c.self.invariant.armed);
  kept = (let s = c.self.inside in
      let is = waits_again c.args.k c.args.how c.args.serial c.block_again.new.self _ (thread_in s.threads c.args.t) c.block_again.ensures c.get_mut.ensures.value in
      kept_after s.threads s.timers s.real_waits _ s.real_expiries c.args.t c.block_again.new.self _ (rw (← c.self.view_is) at c.requires.known) (ap waits_for_reading is) c.drop_wait.ensures c.self.invariant.kept);
}

pub returns : goal.returns
returns c = record {
  table = (search rules);
  moved = (let s = c.self.inside in
      let b = c.await_mutex-moved in
      let none = awaits_none s.threads s.chain s.waits c.args.t (rw (← c.self.view_is) at c.requires.waits_not) c.self.invariant.tied in
      let kept = c.stop_waiting.ensures.links.chain ∙ same_links s.chain c.args.t none in
      let moved = subst (λ (l : Links). TellsMoved (length l.claims) (exec_of l) (exec_of b.new.chain) b.new.waits b.result) kept b.ensures.moved in
      rw (← c.self.view_is, c.thread_of.ensures)
      (told s.timers s.threads (slice_set s.threads c.args.t c.block_again.new.self) s.chain b.new.chain s.waits b.new.waits b.result (length-set s.threads c.args.t c.block_again.new.self) c.self.invariant.tied
      (invariant_of-self c).tied moved));
}

pub end_sleep-requires-clause-numbers : goal.end_sleep-requires-clause-numbers
end_sleep-requires-clause-numbers c = c.self.invariant.armed.numbers

pub stop_waiting-requires : goal.stop_waiting-requires
stop_waiting-requires c =
    let s = c.self.inside in
    record { can = can_relink s.threads s.chain s.waits c.args.t (rw (← c.self.view_is) at c.requires.known) c.self.invariant.tied }

pub end_sleep-requires-clause-started : goal.end_sleep-requires-clause-started
end_sleep-requires-clause-started c =
    let s = c.self.inside in
    let known = rw (← c.self.view_is) at c.requires.known in
    blocked_started s.threads s.timers s.wheel.dues c.args.t (omega (arith, known, c.self.invariant.tied.few)) (rw (← c.self.view_is) at c.requires.blocked) c.self.invariant.armed
