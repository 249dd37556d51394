use Rattle.std.proofs.Common.{arith, subst, sym, ◌≡◌}
use Rattle.kernel_looks.specs.Ahead.{past}
use Rattle.kernel_looks.specs.Desk.{WentOn}
use Rattle.kernel_looks.proofs.Rows.{lists_behind}
use Rattle.kernel_looks.proofs.Looking.{went_both, went_none}
use Rattle.kernel_looks.proofs.look_lists.look_at_each_list.Goals as goal

pub loop-below-init : goal.loop-below-init
loop-below-init c = record {
  few = omega arith;
  stretch = c.requires.stretch;
  kept = went_none _ _;
  memory = c.requires.memory;
}

pub loop-below-preserved : goal.loop-below-preserved
loop-below-preserved c =
    let step = c.look_at_next_lists-below.ensures in
    let more = step.few in
    let few = c.loop-below.invariant.few in
    record {
      few = omega (arith, more, few);
      stretch = step.stretch;
      kept = subst (WentOn c.args.next.now c.look_at_next_lists-below.new.next (past c.args.stretch.now c.args.desk.now) (past c.look_at_next_lists-below.new.stretch c.look_at_next_lists-below.new.desk))
          (sym (lists_behind c.args.decls.now c.args.parts.now.machine.lists c.args.from c.loop-below.below c.look_at_next_lists-below.result))
          (went_both _ _ _ _ _ _ _ _ c.loop-below.invariant.kept step.kept);
      memory = step.memory;
    }

pub returns-clause-kept : goal.returns-clause-kept
returns-clause-kept c =
    let few = c.loop-below.invariant.few in
    let all : c.loop-below.below ≡ c.args.count = omega (arith, few, c.loop-below-test.false) in
    rw all at c.loop-below.invariant.kept
