use Rattle.std.proofs.Common.{refl, rules}
use Rattle.rules_bodies.specs.Next.{capped}
use Rattle.rules_machine.specs.declared.frame.BodyOf.TheVariants as body_of
use Rattle.rules_machine.specs.declared.frame.FrameKind.TheVariants as frame
use Rattle.rules_machine.specs.Waking.{new_frame, on_top}
use Rattle.rules_flat_code.specs.FlatBodies.{flat_bodies}
use Rattle.kernel_table.proofs.Ties.{still_tied}
use Rattle.kernel_table.proofs.ToldMoves.{claims_kept, table_with}
use Rattle.kernel_table.proofs.Armed.{still_armed}
use Rattle.kernel_table.proofs.RealItems.{still_kept}
use Rattle.kernel_table.proofs.table.Table.catch_signal.Goals as goal

pub invariant_of-self : goal.invariant_of-self
invariant_of-self c = record {
  tied = (rw (c.catch_signal.ensures, c.get_mut.ensures.value)
      (still_tied c.self.inside.threads c.self.inside.chain c.self.inside.waits c.args.t (on_top (new_frame (flat_bodies c.args.code.now) frame.Signal (body_of.Handler c.args.h) (capped c.args.value))) (λ th. refl) (λ th. refl) c.self.invariant.tied));
  armed = (let s = c.self.inside in
      rw (c.catch_signal.ensures, c.get_mut.ensures.value)
      (still_armed s.threads s.timers s.wheel.dues c.args.t (on_top (new_frame (flat_bodies c.args.code.now) frame.Signal (body_of.Handler c.args.h) (capped c.args.value))) (λ th. refl) (λ th. refl) (λ th. refl) c.self.invariant.armed));
  kept = (let s = c.self.inside in
      rw (c.catch_signal.ensures, c.get_mut.ensures.value)
      (still_kept s.threads s.timers s.real_waits s.real_expiries c.args.t (on_top (new_frame (flat_bodies c.args.code.now) frame.Signal (body_of.Handler c.args.h) (capped c.args.value))) (λ th. refl) c.self.invariant.kept));
}

pub returns : goal.returns
returns c = record {
  table = (search rules);
  same = (λ u _.
      let s = c.self.inside in
      rw (c.catch_signal.ensures, c.get_mut.ensures.value, ← c.self.view_is) (claims_kept (table_with s.timers s.threads s.chain) c.args.t (on_top (new_frame (flat_bodies c.args.code.now) frame.Signal (body_of.Handler c.args.h) (capped c.args.value))) (λ th. refl) u));
}
