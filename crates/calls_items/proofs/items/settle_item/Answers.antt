use Rattle.std.proofs.Common.{ap, rules, subst, sym}
use Rattle.rules_machine.specs.DueItems.{handles}
use Rattle.rules_machine.proofs.Kept.{Kept}
use Rattle.rules_machine.proofs.Counting.{handles_kept}
use Rattle.rules_flat_code.specs.FlatBodies.{flat_bodies}
use Rattle.kernel_state.specs.Kernel.{Kernel, turn}
use Rattle.kernel_settling.specs.Settled.{HavePriorities}
use Rattle.kernel_settling.specs.Stood.{StoodRight}
use Rattle.calls_items.proofs.Coming.Items.{handles_come}
use Rattle.kernel_settling.proofs.SettleIs.{settles_after}
use Rattle.kernel_settling.proofs.StoodAgain.{stood_again}
use Rattle.calls_items.proofs.items.settle_item.Goals as goal

pub returns-clause-does : goal.returns-clause-does
returns-clause-does g c = record {
  state = (let p = c.args.p.now in
      let bodies = flat_bodies p.code in
      settles_after p.machine (handles bodies c.args.i) p _ _ c.requires.stood (ap (λ (x : Kept). x.lists) (handles_kept bodies c.args.i (turn p))) c.handle.ensures.state c.settle.ensures.moves);
  told = (search rules);
}

pub returns-clause-stood : goal.returns-clause-stood
returns-clause-stood g c =
    let p = c.args.p.now in
    let bodies = flat_bodies p.code in
    let s = handles bodies c.args.i (turn p) in
    let fits = subst (λ (k : Kernel). HavePriorities k.machine) c.handle.ensures.state c.settle.ensures.fits in
    let again = stood_again p.machine s.machine s.direct c.requires.stood (ap (λ (x : Kept). x.lists) (handles_kept bodies c.args.i (turn p))) fits (handles_come bodies c.args.i (turn p)) in
    subst (λ (k : Kernel). StoodRight k.machine) (sym (returns-clause-does g c).state) again
