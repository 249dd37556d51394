use Rattle.laws_leaps.proofs.Quiet.Law.{quiet_charge, quiet_machine}
use Rattle.laws_leaps.proofs.Quiet.Events.{quiet_told}
use Rattle.laws_leaps.proofs.Quiet.AnyMachine.{are_charges, handled_of}
use Rattle.laws_leaps.proofs.quiet_ticks_are_charges.Goals as goal

pub returns-clause-any : goal.returns-clause-any
returns-clause-any c bodies m h k q = are_charges bodies m (handled_of bodies m h) k q

pub returns-clause-charged : goal.returns-clause-charged
returns-clause-charged c = quiet_machine

pub returns-clause-last : goal.returns-clause-last
returns-clause-last c = quiet_charge

pub returns-clause-told : goal.returns-clause-told
returns-clause-told c = quiet_told
