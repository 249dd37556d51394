use Rattle.std.proofs.Common.{ap, refl, slice_set, sym, ◌∙◌, ◌≡◌, rules, arith}
use Rattle.rules_server.specs.Server.{refill}
use Rattle.rules_machine.specs.Servers.{with_server}
use Rattle.rules_machine.specs.Priorities.{assigned_of}
use Rattle.rules_machine.specs.Threads.{no_thread, thread_in}
use Rattle.kernel_table.specs.Tied.{refilling}
use Rattle.kernel_table.specs.Times.{refill_of, start_of, timeout_of}
use Rattle.kernel_table.proofs.Planning.{chain_has}
use Rattle.kernel_table.proofs.Ties.{placed}
use Rattle.kernel_table.proofs.Moved.{reassigned_tied}
use Rattle.std.proofs.lemmas.List.{get_or-set_same, length-set}
use Rattle.kernel_table.proofs.ToldMoves.{claims_long, told}
use Rattle.kernel_table.proofs.Armed.{armed_refilled}
use Rattle.kernel_table.proofs.RealItems.{still_kept}
use Rattle.kernel_table.proofs.table.Table.refill.Goals as goal
use Rattle.kernel_table.proofs.table.Table.refill.Goals.{After-thread_of}

-- the refill is armed as it is due now
due_then : (c : After-thread_of) → c.time_refill.new.wheel.dues ≡ refilling c.args.t (thread_in (slice_set c.self.inside.threads c.args.t c.refill_oldest-next.new.self) c.args.t) c.self.inside.wheel.dues
due_then c =
    let s = c.self.inside in
    let known = rw (← c.self.view_is) at c.requires.known in
    c.time_refill.ensures
    ∙ ap (slice_set s.wheel.dues c.args.t) (c.refill_oldest-next.ensures.next ∙ ap refill_of (sym (get_or-set_same s.threads c.args.t c.refill_oldest-next.new.self no_thread known)))

pub invariant_of-self : goal.invariant_of-self
invariant_of-self c = record {
  tied = (let s = c.self.inside in
      let f = with_server refill in
      let known = rw (← c.self.view_is) at c.requires.known in
      reassigned_tied s.threads s.chain c.reassign_changed-moved.new.chain s.waits c.reassign_changed-moved.new.waits c.args.t f c.refill_oldest-next.new.self known
      (c.refill_oldest-next.ensures.thread ∙ ap f c.get_mut.ensures.value) (λ th. refl) c.reassign_changed-moved.ensures.links.chain c.reassign_changed-moved.ensures.links.waits c.self.invariant.tied);
  armed = (let s = c.self.inside in
      let is = c.refill_oldest-next.ensures.thread ∙ ap (with_server refill) c.get_mut.ensures.value in
      armed_refilled s.threads s.timers s.wheel.dues _ c.args.t c.refill_oldest-next.new.self c.self.invariant.tied.few (rw (← c.self.view_is) at c.requires.known) (ap start_of is) (ap timeout_of is) (due_then c) c.self.invariant.armed);
  kept = (let s = c.self.inside in
      let is = c.refill_oldest-next.ensures.thread ∙ ap (with_server refill) c.get_mut.ensures.value in
      rw is (still_kept s.threads s.timers s.real_waits s.real_expiries c.args.t (with_server refill) (λ th. refl) c.self.invariant.kept));
}

pub reassign_changed-moved-requires-clause-can : goal.reassign_changed-moved-requires-clause-can
reassign_changed-moved-requires-clause-can c =
    let s = c.self.inside in
    let known = rw (← c.self.view_is) at c.requires.known in
    let long = claims_long s.threads s.chain s.waits c.self.invariant.tied in
    record { known = omega (arith, known, long); placed = placed c.self.inside.threads c.self.inside.chain c.self.inside.waits c.self.invariant.tied }

pub returns-clause-change : goal.returns-clause-change
returns-clause-change c = record {
  table = (search rules);
  moved = (let s = c.self.inside in
      rw (← c.self.view_is, c.thread_of.ensures)
      (told s.timers s.threads (slice_set s.threads c.args.t c.refill_oldest-next.new.self) s.chain c.reassign_changed-moved.new.chain s.waits c.reassign_changed-moved.new.waits c.reassign_changed-moved.result (length-set s.threads c.args.t c.refill_oldest-next.new.self) c.self.invariant.tied
      (invariant_of-self c).tied c.reassign_changed-moved.ensures.links.moved));
}

pub time_refill-requires-clause-numbers : goal.time_refill-requires-clause-numbers
time_refill-requires-clause-numbers c = c.self.invariant.armed.numbers

pub reassign_changed-moved-requires-clause-same : goal.reassign_changed-moved-requires-clause-same
reassign_changed-moved-requires-clause-same c = λ low.
    let s = c.self.inside in
    let known = rw (← c.self.view_is) at c.requires.known in
    ap assigned_of (get_or-set_same s.threads c.args.t c.refill_oldest-next.new.self no_thread known)
    ∙ c.refill_oldest-next.ensures.priority low ∙ ap assigned_of c.get_mut.ensures.value ∙ chain_has s.threads s.chain s.waits c.args.t c.self.invariant.tied known
