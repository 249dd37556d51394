use Rattle.std.proofs.Common.{false, None, ◌≡◌, ap, length, refl, slice_set, ◌∙◌, rules}
use Rattle.rules_machine.specs.Lives.{without_life}
use Rattle.kernel_table.proofs.Moved.{restated_tied}
use Rattle.std.proofs.lemmas.List.{length-set}
use Rattle.rules_machine.proofs.Reading.{changed-length}
use Rattle.parts_owners.specs.Chains.{Links, no_claim, waiting_for}
use Rattle.kernel_table.proofs.ToldMoves.{awaits_nothing, told_beside}
use Rattle.kernel_table.proofs.Armed.{armed_after}
use Rattle.kernel_table.specs.RealItems.{waits_for_reading}
use Rattle.kernel_table.proofs.RealItems.{kept_after}
use Rattle.kernel_table.proofs.Relinking.{can_relink}
use Rattle.kernel_table.proofs.table.Table.end.Goals as goal

pub invariant_of-self : goal.invariant_of-self
invariant_of-self c = record {
  tied = (let s = c.self.inside in
      let f = without_life in
      let known = rw (← c.self.view_is) at c.requires in
      restated_tied s.threads s.chain c.stop_waiting-moved.new.chain c.reassign.new.chain s.waits c.stop_waiting-moved.new.waits c.reassign.new.waits c.args.t f c.end.new.self known
      (c.end.ensures ∙ ap f c.get_mut.ensures.value) refl c.stop_waiting-moved.ensures.links.chain c.stop_waiting-moved.ensures.links.waits c.reassign.ensures.links.chain c.reassign.ensures.links.waits c.self.invariant.tied);
  armed = (let s = c.self.inside in
      armed_after s.threads s.timers s.wheel.dues _ c.args.t c.end.new.self c.self.invariant.tied.few (rw (← c.self.view_is) at c.requires) c.retime.ensures c.self.invariant.armed);
  kept = (let s = c.self.inside in
      let f = without_life in
      let is = c.end.ensures ∙ ap f c.get_mut.ensures.value in
      kept_after s.threads s.timers s.real_waits _ s.real_expiries c.args.t c.end.new.self false (rw (← c.self.view_is) at c.requires) (ap waits_for_reading is) c.drop_wait.ensures c.self.invariant.kept);
}

pub returns : goal.returns
returns c = record {
  table = (search rules);
  moved = (let s = c.self.inside in
      let mid = c.stop_waiting-moved.new.chain in
      let left = c.stop_waiting-moved.ensures.links.chain in
      let alone = c.reassign.ensures.alone (rw left (awaits_nothing s.chain.claims c.args.t)) in
      let long : length mid.claims ≡ length s.chain.claims = ap (λ (l : Links). length l.claims) left ∙ changed-length no_claim c.args.t (waiting_for None) s.chain.claims in
      rw (← c.self.view_is, c.beside.ensures, c.thread_of.ensures)
      (told_beside s.timers s.threads (slice_set s.threads c.args.t c.end.new.self) s.chain mid c.reassign.new.chain s.waits c.stop_waiting-moved.new.waits c.reassign.new.waits c.args.t
      (length-set s.threads c.args.t c.end.new.self) long c.self.invariant.tied (invariant_of-self c).tied c.reassign.ensures.links.waits.same c.stop_waiting-moved.result c.reassign.result
      c.stop_waiting-moved.ensures.links.moved c.reassign.ensures.links.moved alone));
}

pub retime-requires-clause-numbers : goal.retime-requires-clause-numbers
retime-requires-clause-numbers c = c.self.invariant.armed.numbers

pub stop_waiting-moved-requires : goal.stop_waiting-moved-requires
stop_waiting-moved-requires c =
    let s = c.self.inside in
    record { can = can_relink s.threads s.chain s.waits c.args.t (rw (← c.self.view_is) at c.requires) c.self.invariant.tied }
