use Rattle.std.proofs.Common.{length, rules, subst, sym}
use Rattle.rules_machine.specs.Delivery.{sweeps_all}
use Rattle.rules_machine.specs.Threads.{thread_numbers}
use Rattle.rules_flat_code.specs.FlatBodies.{flat_bodies}
use Rattle.kernel_state.specs.Kernel.{Kernel, turn}
use Rattle.kernel_settling.specs.Settled.{HavePriorities}
use Rattle.kernel_settling.specs.Stood.{StoodRight}
use Rattle.kernel_settling.proofs.SettleIs.{settles_after}
use Rattle.kernel_settling.proofs.StoodAgain.{stood_again}
use Rattle.calls_items.proofs.Midway.{midway}
use Rattle.calls_items.proofs.sweeps.sweep_in_full.Goals as goal

pub returns-clause-does : goal.returns-clause-does
returns-clause-does g c = record {
  state = (let p = c.args.p.now in
      let bodies = flat_bodies p.code in
      settles_after p.machine (sweeps_all bodies (thread_numbers p.machine)) p _ _ c.requires.stood (midway bodies (length p.machine.threads) (turn p)).lists c.visit_all.ensures.state c.settle.ensures.moves);
  told = (search rules);
}

pub returns-clause-stood : goal.returns-clause-stood
returns-clause-stood g c =
    let p = c.args.p.now in
    let bodies = flat_bodies p.code in
    let s = sweeps_all bodies (thread_numbers p.machine) (turn p) in
    let mid = midway bodies (length p.machine.threads) (turn p) in
    let fits = subst (λ (k : Kernel). HavePriorities k.machine) c.visit_all.ensures.state c.settle.ensures.fits in
    subst (λ (k : Kernel). StoodRight k.machine) (sym (returns-clause-does g c).state) (stood_again p.machine s.machine s.direct c.requires.stood mid.lists fits mid.come)
