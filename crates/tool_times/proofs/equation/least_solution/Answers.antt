use Rattle.std.proofs.Common.{◌≤◌, arith, sym, ◌∙◌}
use Rattle.tool_times.specs.Equation.{demand}
use Rattle.tool_times.proofs.Iteration.{Climbs, climbs_next, found}
use Rattle.tool_times.proofs.Finishes.{finish, no_finish}
use Rattle.tool_times.proofs.equation.least_solution.Goals as goal

pub returns-then-next-value-clause-least : goal.returns-then-next-value-clause-least
returns-then-next-value-clause-least g c =
    found c.args.tasks.now c.args.k c.loop-value.value c.requires.tasks c.requires.known c.loop-value.invariant.climbs
    (sym c.if-next-value.true ∙ c.demand-next.ensures)

pub returns-then-next-value-clause-finish : goal.returns-then-next-value-clause-finish
returns-then-next-value-clause-finish g c =
    sym (finish c.args.tasks.now c.args.k c.args.bound c.loop-value.value c.requires.tasks c.requires.known c.loop-value-test.true
    (found c.args.tasks.now c.args.k c.loop-value.value c.requires.tasks c.requires.known c.loop-value.invariant.climbs
    (sym c.if-next-value.true ∙ c.demand-next.ensures)))

pub loop-value-preserved : goal.loop-value-preserved
loop-value-preserved g c =
    let climbs : Climbs c.args.tasks.now c.args.k c.loop-value.value = c.loop-value.invariant.climbs in
    let rises : c.loop-value.value ≤ demand c.args.tasks.now c.args.k c.loop-value.value = climbs.rises in
    record {
      climbs = climbs_next c.args.tasks.now c.args.k c.loop-value.value c.demand-next.result c.requires.tasks climbs c.demand-next.ensures;
      rounds = omega arith;
    }

pub returns-clause-finish : goal.returns-clause-finish
returns-clause-finish g c =
    sym (no_finish c.args.tasks.now c.args.k c.args.bound c.requires.tasks c.requires.known (λ n solves. omega (arith, c.loop-value.invariant.climbs.below n solves)))
