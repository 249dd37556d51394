use Rattle.std.proofs.Common.{ap, rules, subst, sym, ◌∙◌}
use Rattle.rules_machine.specs.Threads.{thread_at}
use Rattle.rules_machine.specs.Ticks.{TickEnd, ends_tick, tick_end}
use Rattle.rules_machine.proofs.Instants.{ends_tick_kept}
use Rattle.rules_machine.proofs.Kept.{Kept}
use Rattle.kernel_state.specs.Kernel.{Kernel, after, turn}
use Rattle.kernel_settling.specs.Settled.{HavePriorities}
use Rattle.kernel_settling.specs.Stood.{StoodRight}
use Rattle.calls_items.proofs.Coming.Steps.{fewer_come}
use Rattle.kernel_leaps.proofs.ComingUnits.{ends_tick_fewer}
use Rattle.kernel_settling.proofs.SettleIs.{settles_after}
use Rattle.kernel_settling.proofs.StoodAgain.{stood_again}
use Rattle.kernel_leaps.proofs.TickEnding.{ends_with_nothing}
use Rattle.kernel_leaps.proofs.tick_ends.end_tick.Goals as goal

pub returns-then-end_by_rule-clause-does : goal.returns-then-end_by_rule-clause-does
returns-then-end_by_rule-clause-does g c = record {
  state = (let p = c.args.p.now in
      let t = c.args.t in
      let e = tick_end c.args.was_high p.machine.quantum (thread_at p.machine t) in
      settles_after p.machine (ends_tick e t) p _ _ c.requires.stood (ap (λ (x : Kept). x.lists) (ends_tick_kept e t (turn p))) c.end_by_rule.ensures.does.state c.settle.ensures.moves);
  told = (search rules);
}

pub returns-then-end_by_rule-clause-stood : goal.returns-then-end_by_rule-clause-stood
returns-then-end_by_rule-clause-stood g c =
    let p = c.args.p.now in
    let t = c.args.t in
    let e = tick_end c.args.was_high p.machine.quantum (thread_at p.machine t) in
    let s = ends_tick e t (turn p) in
    let fits = subst (λ (k : Kernel). HavePriorities k.machine) c.end_by_rule.ensures.does.state c.settle.ensures.fits in
    let again = stood_again p.machine s.machine s.direct c.requires.stood (ap (λ (x : Kept). x.lists) (ends_tick_kept e t (turn p))) fits (fewer_come p.machine s.machine s.direct (ends_tick_fewer e t (turn p))) in
    subst (λ (k : Kernel). StoodRight k.machine) (sym (returns-then-end_by_rule-clause-does g c).state) again

pub returns-else-end_by_rule-clause-does : goal.returns-else-end_by_rule-clause-does
returns-else-end_by_rule-clause-does g c = record {
  state = (let p = c.args.p.now in
      let t = c.args.t in
      let none = c.end_by_rule.ensures.none c.if-end_by_rule.false in
      c.end_by_rule.ensures.does.state ∙ ap (λ (e : TickEnd). after (ends_tick e t) p) none ∙ ends_with_nothing p c.args.was_high t c.requires.stood c.requires.quiet none);
  told = (search rules);
}
