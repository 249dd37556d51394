use Rattle.std.proofs.Common.{ap, refl, slice_set, ◌∙◌, rules, arith}
use Rattle.rules_machine.specs.Scheduling.{with_priority}
use Rattle.kernel_table.proofs.Moved.{reassigned_tied}
use Rattle.kernel_table.proofs.Ties.{placed}
use Rattle.std.proofs.lemmas.List.{length-set}
use Rattle.kernel_table.proofs.ToldMoves.{claims_long, told}
use Rattle.kernel_table.proofs.Armed.{still_armed, raised_due}
use Rattle.kernel_table.proofs.RealItems.{still_kept}
use Rattle.kernel_table.proofs.table.Table.set_priority.Goals as goal

pub invariant_of-self : goal.invariant_of-self
invariant_of-self c = record {
  tied = (let s = c.self.inside in
      let f = with_priority c.args.p in
      let known = rw (← c.self.view_is) at c.requires.known in
      reassigned_tied s.threads s.chain c.reassign.new.chain s.waits c.reassign.new.waits c.args.t f c.set_priority.new.self known
      (c.set_priority.ensures ∙ ap f c.get_mut.ensures.value) (λ th. refl) c.reassign.ensures.links.chain c.reassign.ensures.links.waits c.self.invariant.tied);
  armed = (let s = c.self.inside in
      rw (c.set_priority.ensures, c.get_mut.ensures.value)
      (still_armed s.threads s.timers s.wheel.dues c.args.t (with_priority c.args.p) (λ th. raised_due c.args.p th.server) (λ th. refl) (λ th. refl) c.self.invariant.armed));
  kept = (let s = c.self.inside in
      rw (c.set_priority.ensures, c.get_mut.ensures.value)
      (still_kept s.threads s.timers s.real_waits s.real_expiries c.args.t (with_priority c.args.p) (λ th. refl) c.self.invariant.kept));
}

pub reassign-requires-clause-can : goal.reassign-requires-clause-can
reassign-requires-clause-can c =
    let s = c.self.inside in
    let known = rw (← c.self.view_is) at c.requires.known in
    let long = claims_long s.threads s.chain s.waits c.self.invariant.tied in
    record { known = omega (arith, known, long); placed = placed c.self.inside.threads c.self.inside.chain c.self.inside.waits c.self.invariant.tied }

pub returns : goal.returns
returns c = record {
  table = (search rules);
  moved = (let s = c.self.inside in
      rw (← c.self.view_is, c.thread_of.ensures)
      (told s.timers s.threads (slice_set s.threads c.args.t c.set_priority.new.self) s.chain c.reassign.new.chain s.waits c.reassign.new.waits c.reassign.result (length-set s.threads c.args.t c.set_priority.new.self) c.self.invariant.tied
      (invariant_of-self c).tied c.reassign.ensures.links.moved));
}
