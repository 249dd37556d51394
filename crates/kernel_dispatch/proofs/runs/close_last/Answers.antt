use Rattle.std.proofs.Common.{sym, ◌∙◌, true, false}
use Rattle.kernel_dispatch.proofs.LastRun.{last_closes, none_closes, run_consumes}
use Rattle.kernel_state.proofs.Does.{nothing_does, same_does}
use Rattle.rules_machine.specs.Servers.{closes, plans}
use Rattle.kernel_dispatch.proofs.runs.close_last.Goals as goal

pub returns-in_default : goal.returns-in_default
returns-in_default g c =
    let k = c.args.p.now in
    nothing_does (closes c.args.to.now) k c.args.out.now (none_closes k c.args.to.now c.requires.latest (sym c.last_dispatch.ensures ∙ c.in_default.is))

pub plan-requires-clause-known : goal.plan-requires-clause-known
plan-requires-clause-known g c = c.has_run.ensures.known c.if-has_run.true

pub plan-requires-clause-used : goal.plan-requires-clause-used
plan-requires-clause-used g c = run_consumes c.args.p.now c.in-Some.u (sym c.has_run.ensures.value ∙ c.if-has_run.true)

pub returns-then-has_run : goal.returns-then-has_run
returns-then-has_run g c =
    let same = last_closes c.args.p.now c.args.to.now c.in-Some.u true c.requires.latest c.requires.change (sym c.last_dispatch.ensures ∙ c.in-Some.is) (sym c.has_run.ensures.value ∙ c.if-has_run.true) in
    same_does {g = plans c.in-Some.u} same c.plan.ensures

pub returns-else-has_run : goal.returns-else-has_run
returns-else-has_run g c =
    let k = c.args.p.now in
    let same = last_closes k c.args.to.now c.in-Some.u false c.requires.latest c.requires.change (sym c.last_dispatch.ensures ∙ c.in-Some.is) (sym c.has_run.ensures.value ∙ c.if-has_run.false) in
    nothing_does (closes c.args.to.now) k c.args.out.now same
