use Rattle.kernel_leaps.proofs.OneLeap.{leap_long, leap_state, leap_step, leap_told}
use Rattle.kernel_leaps.proofs.detail.leap_in_unit.Goals as goal

pub returns-clause-long : goal.returns-clause-long
returns-clause-long g c = leap_long _ _ _ _ _ _ _ _ _ _ _ c.requires.alone c.leap_thread.ensures.leapt

pub returns-clause-state : goal.returns-clause-state
returns-clause-state g c = leap_state _ _ _ _ _ _ _ _ _ _ _ c.requires.alone c.leap_thread.ensures.leapt

pub returns-clause-told : goal.returns-clause-told
returns-clause-told g c = leap_told _ _ _ _ _ _ _ _ _ _ _ c.requires.alone c.leap_thread.ensures.leapt

pub returns-clause-step : goal.returns-clause-step
returns-clause-step g c = leap_step _ _ _ _ _ _ _ _ _ _ _ c.requires.alone c.leap_thread.ensures.leapt
