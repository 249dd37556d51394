use Rattle.std.proofs.Common.{rules, ℕ}
use Rattle.rules_machine.specs.Clock.{thread_moved}
use Rattle.kernel_table.proofs.ToldMoves.{claims_kept, table_with}
use Rattle.kernel_table.proofs.Armed.{armed_after}
use Rattle.kernel_table.proofs.SetTimes.{claim_kept, moved_tied}
use Rattle.kernel_table.proofs.RealItems.{still_kept, still_waits}
use Rattle.kernel_table.proofs.table.Table.time_real_wait.Goals as goal

pub invariant_of-self : goal.invariant_of-self
invariant_of-self c = record {
  tied = (let s = c.self.inside in
      rw (c.move_real_due.ensures, c.get_mut.ensures.value) (moved_tied s.threads s.chain s.waits c.args.t (λ (due : ℕ). c.args.at) c.self.invariant.tied));
  armed = (let s = c.self.inside in
      armed_after s.threads s.timers s.wheel.dues _ c.args.t c.move_real_due.new.self c.self.invariant.tied.few (rw (← c.self.view_is) at c.requires) c.retime.ensures c.self.invariant.armed);
  kept = (let s = c.self.inside in
      rw (c.move_real_due.ensures, c.get_mut.ensures.value)
      (still_kept s.threads s.timers s.real_waits s.real_expiries c.args.t (thread_moved (λ (due : ℕ). c.args.at)) (λ th. still_waits (λ (due : ℕ). c.args.at) th) c.self.invariant.kept));
}

pub returns : goal.returns
returns c = record {
  table = (search rules);
  same = (λ u _.
      let s = c.self.inside in
      rw (c.move_real_due.ensures, c.get_mut.ensures.value, ← c.self.view_is)
      (claims_kept (table_with s.timers s.threads s.chain) c.args.t (thread_moved (λ (due : ℕ). c.args.at)) (λ th. claim_kept (λ (due : ℕ). c.args.at) th) u));
}
