use Rattle.std.proofs.Common.{rules}
use Rattle.rules_machine.specs.Timers.{armed}
use Rattle.kernel_threads.specs.RealDues.{real_due_if}
use Rattle.kernel_state.proofs.StillModest.{comes_each, timer_modest}
use Rattle.kernel_state.proofs.parts.Parts.set_timer.Goals as goal

pub invariant_of-self : goal.invariant_of-self
invariant_of-self c =
    let s = c.self.inside in
    let w = c.set_timer in
    record {
      tied = search rules;
      stand = search rules;
      modest = timer_modest s.instant s.clock s.table w.new.self c.args.k (armed c.args.due c.args.is_reading c.args.interval) w.ensures (λ x was. comes_each s.clock (real_due_if c.args.due c.args.is_reading) (rw (← c.self.view_is) at c.requires.modest)) c.self.invariant.modest;
    }
