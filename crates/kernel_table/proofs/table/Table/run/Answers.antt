use Rattle.std.proofs.Common.{ap, refl, slice_set, sym, ◌∙◌, rules, arith}
use Rattle.rules_bodies.specs.declared.cursor.Cursor.{Cursor}
use Rattle.rules_machine.specs.State.{Thread}
use Rattle.kernel_table.proofs.Ties.{placed}
use Rattle.kernel_table.proofs.Moved.{reassigned_tied}
use Rattle.std.proofs.lemmas.List.{get_or-set_same, length-set}
use Rattle.rules_flat_code.specs.FlatBodies.{flat_bodies}
use Rattle.rules_machine.specs.Priorities.{assigned_of}
use Rattle.rules_machine.specs.Servers.{has_high}
use Rattle.rules_machine.specs.Threads.{no_thread, waiting_in}
use Rattle.kernel_table.specs.Times.{refill_of, start_of, timeout_of}
use Rattle.kernel_table.proofs.Charges.{run_past, runs_keep, stays_assigned}
use Rattle.kernel_table.proofs.ToldMoves.{claims_long, told}
use Rattle.kernel_table.proofs.Armed.{still_armed, charged_due}
use Rattle.kernel_table.specs.RealItems.{waits_for_reading}
use Rattle.kernel_table.proofs.RealItems.{still_kept}
use Rattle.kernel_table.proofs.table.Table.run.Goals as goal

pub invariant_of-self : goal.invariant_of-self
invariant_of-self g c =
    let s = c.self.inside in
    let ran = c.run-ran.ensures in
    let bodies = flat_bodies c.args.code.now in
    let f : Thread Cursor → Thread Cursor = run_past bodies ran.units c.run-ran.result.ticks in
    let is = ran.thread ∙ ap f c.get_mut.ensures.value in
    record {
      tied = (let known = rw (← c.self.view_is) at c.requires.known in
          reassigned_tied s.threads s.chain c.reassign_changed-moved.new.chain s.waits c.reassign_changed-moved.new.waits c.args.t f c.run-ran.new.self known
          is (λ th. runs_keep bodies (λ (x : Thread Cursor). waiting_in x.status) (waiting_in th.status) (λ x fs us. refl) (λ k x e. e) ran.units c.run-ran.result.ticks th refl)
          c.reassign_changed-moved.ensures.links.chain c.reassign_changed-moved.ensures.links.waits c.self.invariant.tied);
      armed = rw is (still_armed s.threads s.timers s.wheel.dues c.args.t f
          (λ th. runs_keep bodies refill_of (refill_of th) (λ x fs us. refl) (λ k x e. charged_due k x.server ∙ e) ran.units c.run-ran.result.ticks th refl)
          (λ th. runs_keep bodies start_of (start_of th) (λ x fs us. refl) (λ k x e. e) ran.units c.run-ran.result.ticks th refl)
          (λ th. runs_keep bodies timeout_of (timeout_of th) (λ x fs us. refl) (λ k x e. e) ran.units c.run-ran.result.ticks th refl) c.self.invariant.armed);
      kept = rw is (still_kept s.threads s.timers s.real_waits s.real_expiries c.args.t f
          (λ th. runs_keep bodies waits_for_reading (waits_for_reading th) (λ x fs us. refl) (λ k x e. e) ran.units c.run-ran.result.ticks th refl) c.self.invariant.kept);
    }

pub reassign_changed-moved-requires-clause-can : goal.reassign_changed-moved-requires-clause-can
reassign_changed-moved-requires-clause-can g c =
    let s = c.self.inside in
    let known = rw (← c.self.view_is) at c.requires.known in
    let long = claims_long s.threads s.chain s.waits c.self.invariant.tied in
    record { known = omega (arith, known, long); placed = placed c.self.inside.threads c.self.inside.chain c.self.inside.waits c.self.invariant.tied }

pub returns-clause-change : goal.returns-clause-change
returns-clause-change g c = record {
  table = (search rules);
  moved = (let s = c.self.inside in
      rw (← c.self.view_is, c.thread_of.ensures)
      (told s.timers s.threads (slice_set s.threads c.args.t c.run-ran.new.self) s.chain c.reassign_changed-moved.new.chain s.waits c.reassign_changed-moved.new.waits c.reassign_changed-moved.result (length-set s.threads c.args.t c.run-ran.new.self) c.self.invariant.tied
      (invariant_of-self g c).tied c.reassign_changed-moved.ensures.links.moved));
}

pub reassign_changed-moved-requires-clause-same : goal.reassign_changed-moved-requires-clause-same
reassign_changed-moved-requires-clause-same g c = λ low.
    let s = c.self.inside in
    let ran = c.run-ran.ensures in
    let bodies = flat_bodies c.args.code.now in
    let f : Thread Cursor → Thread Cursor = run_past bodies ran.units c.run-ran.result.ticks in
    let known = rw (← c.self.view_is) at c.requires.known in
    ap assigned_of (get_or-set_same s.threads c.args.t c.run-ran.new.self no_thread known ∙ ran.thread ∙ ap f c.get_mut.ensures.value)
    ∙ stays_assigned bodies s.threads s.chain s.waits c.args.t ran.units c.run-ran.result.ticks c.self.invariant.tied known
    (ap (λ (th : Thread Cursor). has_high th.server) (sym c.get_mut.ensures.value) ∙ sym ran.high ∙ low)
