use Rattle.std.proofs.Common.{◌∙◌}
use Rattle.kernel_leaps.proofs.Opened.{budgets_kept}
use Rattle.kernel_leaps.proofs.ScriptRun.{busy_of, events_of, machine_of}
use Rattle.kernel_leaps.proofs.kernel.Kernel.run_until.Goals as goal

pub returns-clause-good : goal.returns-clause-good
returns-clause-good g c ended = (c.run_leaps.ensures.fits.each 0 0).good

pub returns-clause-budgets : goal.returns-clause-budgets
returns-clause-budgets g c script fits is n k = budgets_kept script fits c.args.self.now is n k

-- the parts are what contracts see
pub returns-clause-machine : goal.returns-clause-machine
returns-clause-machine g c ended script is = machine_of script c.args.horizon c.deref_mut.result.now (c.deref_mut.ensures.value ∙ (c.self.view_is ∙ is)) c.run_leaps.new.p (c.run_leaps.ensures.state ended)

pub returns-clause-events : goal.returns-clause-events
returns-clause-events g c script is =
    events_of script c.args.horizon c.deref_mut.result.now (c.deref_mut.ensures.value ∙ (c.self.view_is ∙ is)) g.K.Sink.text g.K.Sink.faults c.args.out.now c.run_leaps.new.out c.run_leaps.ensures.told

pub returns-clause-eventful : goal.returns-clause-eventful
returns-clause-eventful g c script is =
    busy_of script c.args.horizon c.deref_mut.result.now (c.deref_mut.ensures.value ∙ (c.self.view_is ∙ is)) c.args.steps.now c.run_leaps.new.steps c.run_leaps.ensures.busy
