use Rattle.std.proofs.Common.{refl, rules}
use Rattle.rules_machine.specs.Waking.{ending_with}
use Rattle.kernel_table.proofs.Ties.{still_tied}
use Rattle.kernel_table.proofs.ToldMoves.{claims_kept, table_with}
use Rattle.kernel_table.proofs.Armed.{still_armed}
use Rattle.kernel_table.proofs.RealItems.{still_kept}
use Rattle.kernel_table.proofs.table.Table.begin_end.Goals as goal

pub invariant_of-self : goal.invariant_of-self
invariant_of-self c = record {
  tied = (rw (c.begin_end.ensures, c.get_mut.ensures.value)
      (still_tied c.self.inside.threads c.self.inside.chain c.self.inside.waits c.args.t (ending_with c.args.value) (λ th. refl) (λ th. refl) c.self.invariant.tied));
  armed = (let s = c.self.inside in
      rw (c.begin_end.ensures, c.get_mut.ensures.value)
      (still_armed s.threads s.timers s.wheel.dues c.args.t (ending_with c.args.value) (λ th. refl) (λ th. refl) (λ th. refl) c.self.invariant.armed));
  kept = (let s = c.self.inside in
      rw (c.begin_end.ensures, c.get_mut.ensures.value)
      (still_kept s.threads s.timers s.real_waits s.real_expiries c.args.t (ending_with c.args.value) (λ th. refl) c.self.invariant.kept));
}

pub returns : goal.returns
returns c = record {
  table = (search rules);
  same = (λ u _.
      let s = c.self.inside in
      rw (c.begin_end.ensures, c.get_mut.ensures.value, ← c.self.view_is) (claims_kept (table_with s.timers s.threads s.chain) c.args.t (ending_with c.args.value) (λ th. refl) u));
}
