use Rattle.std.proofs.Common.{◌∙◌, ap, subst, sym}
use Rattle.rules_bodies.specs.declared.cursor.Cursor.{Cursor}
use Rattle.rules_machine.specs.GoodState.{HasParameters}
use Rattle.rules_machine.specs.State.{Thread}
use Rattle.kernel_threads.proofs.Charged.{run_fifo, run_rr, run_sporadic, run_strict}
use Rattle.kernel_threads.proofs.thread.Thread.run.Goals as goal

pub returns-in-Fifo : goal.returns-in-Fifo
returns-in-Fifo g c =
    run_fifo c.args.code.now c.args.most c.args.quantum c.run_unit.result c.args.self.now c.run_unit.new.self c.args.steps.now c.run_unit.new.steps c.in-Fifo.field-0
    (sym (ap (λ (t : Thread Cursor). t.policy) c.self.view_is) ∙ c.in-Fifo.is)
    (subst (λ (t : Thread Cursor). HasParameters t.policy t.server) c.self.view_is c.self.invariant.parameters) c.run_unit.ensures.spent c.run_unit.ensures.high

pub returns-in-Rr : goal.returns-in-Rr
returns-in-Rr g c =
    run_rr c.args.code.now c.args.most c.args.quantum c.run_slice.result c.args.self.now c.run_slice.new.self c.args.steps.now c.run_slice.new.steps c.in-Rr.field-0
    (sym (ap (λ (t : Thread Cursor). t.policy) c.self.view_is) ∙ c.in-Rr.is)
    (subst (λ (t : Thread Cursor). HasParameters t.policy t.server) c.self.view_is c.self.invariant.parameters) c.run_slice.ensures.spent c.run_slice.ensures.high

pub returns-in-Sporadic : goal.returns-in-Sporadic
returns-in-Sporadic g c =
    run_sporadic c.args.code.now c.args.most c.args.quantum c.run_capacity.result c.args.self.now c.run_capacity.new.self c.args.steps.now c.run_capacity.new.steps c.in-Sporadic.field-0
    (sym (ap (λ (t : Thread Cursor). t.policy) c.self.view_is) ∙ c.in-Sporadic.is) c.run_capacity.ensures.spent c.run_capacity.ensures.high

pub returns-in-Strict : goal.returns-in-Strict
returns-in-Strict g c =
    run_strict c.args.code.now c.args.most c.args.quantum c.run_capacity-in-Strict.result c.args.self.now c.run_capacity-in-Strict.new.self c.args.steps.now c.run_capacity-in-Strict.new.steps c.in-Strict.field-0
    (sym (ap (λ (t : Thread Cursor). t.policy) c.self.view_is) ∙ c.in-Strict.is) c.run_capacity-in-Strict.ensures.spent c.run_capacity-in-Strict.ensures.high
