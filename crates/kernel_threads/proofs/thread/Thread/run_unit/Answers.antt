use Rattle.std.proofs.Common.{◌≡◌, ◌∙◌, ap, arith, refl, subst, sym}
use Rattle.rules_machine.specs.Threads.{top_left}
use Rattle.kernel_threads.specs.Passing.{HasTaken}
use Rattle.kernel_threads.specs.contracts.thread.Thread.{the_view}
use Rattle.kernel_threads.proofs.Charged.{complete_is, taken_counts, taken_within}
use Rattle.kernel_threads.proofs.thread.Thread.run_unit.Goals as goal

pub overflow_sub-most : goal.overflow_sub-most
overflow_sub-most g c =
    let few = taken_within c.take-taken.ensures in
    omega arith

pub overflow_add-self : goal.overflow_add-self
overflow_add-self g c =
    let few = taken_within c.take-taken.ensures in
    omega arith

pub overflow_add-self-2 : goal.overflow_add-self-2
overflow_add-self-2 g c =
    let few = taken_within c.take-taken.ensures in
    let same = taken_counts c.take-taken.ensures in
    let here = ap (λ t. t.ticks) c.self.view_is in
    omega arith

pub returns-clause-spent : goal.returns-clause-spent
returns-clause-spent g c =
    let few = taken_within c.take-taken.ensures in
    let same = taken_counts c.take-taken.ensures in
    let ticks : c.args.self.now.ticks ≡ (the_view c.self.inside).ticks = sym (ap (λ t. t.ticks) c.self.view_is ∙ same.ticks) in
    let slice : c.args.self.now.slice ≡ (the_view c.self.inside).slice = sym (ap (λ t. t.slice) c.self.view_is ∙ same.slice) in
    let server : c.args.self.now.server ≡ (the_view c.self.inside).server = sym (ap (λ t. t.server) c.self.view_is ∙ same.server) in
    record {
      taken = c.take-taken.new.self;
      takes = subst (λ n. HasTaken c.args.code.now c.args.most (record { passed = c.take-taken.result.passed; unit = c.take-taken.result.unit; left = n }) c.args.self.now c.take-taken.new.self c.args.steps.now c.take-taken.new.steps) c.take-taken.ensures.left c.take-taken.ensures;
      same = same;
      ticks = omega (arith, c.max-ticks.ensures, c.min.ensures, c.take-taken.ensures.left);
      within = omega arith;
      thread = rw (← c.self.view_is, ticks, slice, server, c.charge.ensures) refl;
      complete = rw c.charge.ensures (complete_is c.take-taken.result.left c.max-ticks.result c.self.inside.frames (c.take-taken.ensures.left ∙ sym (ap (λ t. top_left t.frames) c.self.view_is)));
    }
