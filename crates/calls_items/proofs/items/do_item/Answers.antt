use Rattle.std.proofs.Common.{◌≤◌, ◌^◌, ap, subst, sym, ◌∙◌}
use Rattle.rules_machine.specs.Delivery.{sweeps}
use Rattle.rules_machine.specs.DueItems.{handles}
use Rattle.rules_machine.specs.Turns.{settles_since, ◌▷◌}
use Rattle.rules_machine.proofs.BehindTicks.{sweeps_behind}
use Rattle.rules_machine.proofs.Counting.{handles_kept}
use Rattle.rules_machine.proofs.Instants.{sweeps_now}
use Rattle.rules_machine.proofs.Kept.{Kept}
use Rattle.rules_flat_code.specs.FlatBodies.{flat_bodies}
use Rattle.kernel_state.specs.Kernel.{Kernel, turn}
use Rattle.kernel_state.specs.Caught.{CanSweep}
use Rattle.kernel_state.proofs.Does.{then_does_in}
use Rattle.calls_items.proofs.items.do_item.Goals as goal

pub returns-clause-does : goal.returns-clause-does
returns-clause-does g c = then_does_in (λ b s. s ▷ handles b c.args.i ▷ settles_since s.machine) sweeps sweeps_behind c.settle_item.ensures.does c.sweep.ensures.does

pub returns-clause-time : goal.returns-clause-time
returns-clause-time g c =
    let p = c.args.p.now in
    let bodies = flat_bodies p.code in
    ap (λ (k : Kernel). k.machine.now) (returns-clause-does g c).state
    ∙ sweeps_now bodies (settles_since p.machine (handles bodies c.args.i (turn p)))
    ∙ ap (λ (x : Kept). x.now) (handles_kept bodies c.args.i (turn p))

pub sweep-requires-clause-can : goal.sweep-requires-clause-can
sweep-requires-clause-can g c = subst (λ (k : Kernel). CanSweep k) (sym c.settle_item.ensures.does.state) c.requires.sweeps

pub sweep-requires-clause-early : goal.sweep-requires-clause-early
sweep-requires-clause-early g c =
    let p = c.args.p.now in
    let same = ap (λ (k : Kernel). k.machine.now) c.settle_item.ensures.does.state ∙ ap (λ (x : Kept). x.now) (handles_kept (flat_bodies p.code) c.args.i (turn p)) in
    subst (λ n. n ≤ 10 ^ 18) (sym same) c.requires.can.early
