use Rattle.std.proofs.Common.{rules, arith, ◌≡◌, ◌-◌, slice_set, length, ap, length-append, ◌∙◌, sym, ◌++◌, ◌∷◌, []}
use Rattle.words_script.specs.Tree.{block_of}
use Rattle.rules_bodies.specs.declared.op.Op.{Op}
use Rattle.rules_bodies.specs.declared.op.Op.TheVariants as op
use Rattle.rules_bodies.specs.Flat.{flat, op_number}
use Rattle.rules_bodies.proofs.Lands.{length-flat}
use Rattle.script_flattener.proofs.Flattens.{room_for, flattens_more, test_done, deep-at}
use Rattle.script_flattener.proofs.flatten.+flatten.Goals as goal

pub flatten-flatten_step-requires : goal.flatten-flatten_step-requires
flatten-flatten_step-requires t c =
    let steps = c.steps-step-items.result.now in
    let deep = deep-at c.steps-step-items.result.now c.loop-step.step-index c.step-item.result c.loop-step-test.true c.step-item.is in
    let all = ap op_number c.steps-step-items.ensures in (
      search rules,
      room_for c.args.ops.now c.steps-step-items.result.now c.loop-step.ops c.loop-step.step-index c.step-item.result _
          c.loop-step.invariant c.loop-step-test.true c.step-item.is (omega arith),
    )

pub flatten-loop-step-preserved : goal.flatten-loop-step-preserved
flatten-loop-step-preserved t c =
    flattens_more c.args.ops.now c.steps-step-items.result.now c.loop-step.ops c.flatten_step.new.ops c.loop-step.step-index
    c.step-item.result c.loop-step.invariant c.loop-step-test.true c.step-item.is c.in_ok-flatten_step.ensures

pub flatten_step-overflow_cast-skip : goal.flatten_step-overflow_cast-skip
flatten_step-overflow_cast-skip t c =
    let room = c.requires in
    let head = ap (λ s. op_number (block_of (s ∷ []))) c.in-Test.is in
    let marked = ap length c.in_ok-push-in-Test.ensures in
    let whole = ap length c.in_ok-flatten-in-Test.ensures in
    omega (arith, length-append {A = Op}, length-flat)

pub flatten_step-returns-in_ok-flatten-in-Test : goal.flatten_step-returns-in_ok-flatten-in-Test
flatten_step-returns-in_ok-flatten-in-Test t c =
    let at : c.len-at.result ≡ length c.args.ops.now = search rules in
    let len : c.len.result ≡ length c.flatten.new.ops = search rules in
    c.set_test.ensures
    ∙ (ap (λ n. slice_set c.flatten.new.ops n (op.Test c.in-Test.res c.in-Test.equal ((c.len.result - n) - 1))) at
    ∙ (ap (λ n. slice_set c.flatten.new.ops (length c.args.ops.now) (op.Test c.in-Test.res c.in-Test.equal ((n - length c.args.ops.now) - 1))) len
    ∙ (test_done c.args.ops.now c.push-in-Test.new.self c.flatten.new.ops _ c.in-Test.res c.in-Test.equal c.in-Test.body
    c.in_ok-push-in-Test.ensures c.in_ok-flatten-in-Test.ensures
    ∙ ap (λ s. c.args.ops.now ++ flat (length c.args.ops.now) (block_of (s ∷ []))) (sym c.in-Test.is))))
