use Rattle.std.proofs.Common.{subst, sym, ◌∙◌}
use Rattle.kernel_state.specs.Kernel.{Kernel}
use Rattle.kernel_settling.specs.Settled.{HavePriorities}
use Rattle.kernel_settling.specs.Stood.{StoodRight}
use Rattle.kernel_settling.proofs.StoodAtFirst.{stood_opening}
use Rattle.kernel_wakes.specs.Calls.{objects_in}
use Rattle.kernel_leaps.specs.Fits.{StaysFit}
use Rattle.kernel_leaps.proofs.Opened.{script_fits}
use Rattle.kernel_leaps.proofs.kernel.open_parts.Goals as goal

pub returns-clause-stood : goal.returns-clause-stood
returns-clause-stood c =
    let e = c.in_ok-parts.ensures in
    subst (λ (k : Kernel). StoodRight k.machine) (sym e) (stood_opening c.args.script.now (subst (λ (k : Kernel). HavePriorities k.machine) (c.deref.ensures ∙ e) c.know_priorities.ensures))

pub returns-clause-fits : goal.returns-clause-fits
returns-clause-fits c = subst (λ (k : Kernel). StaysFit k (objects_in k)) (sym c.in_ok-parts.ensures) (script_fits c.args.script.now c.requires.runnable c.requires.well_formed)
