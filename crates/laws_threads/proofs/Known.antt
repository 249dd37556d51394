-- Where nothing is asked of handlers and calls, all of them are known.
use Rattle.std.proofs.Common.{List, ℕ}
use Rattle.rules_bodies.specs.declared.unit.Unit as units
use Rattle.rules_bodies.specs.declared.unit.Unit.TheVariants as unit
use Rattle.rules_machine.specs.declared.signal.SigAction.{SigAction}
use Rattle.rules_machine.specs.declared.signal.SigAction.TheVariants as action
use Rattle.rules_machine.specs.Bodies.{Bodies}
use Rattle.rules_machine.specs.State.{Queue, SignalRecord, Thread, Timer}
use Rattle.laws_threads.specs.EachThread.{ActionKnown, Given, UnitKnown}
use Rattle.laws_threads.proofs.Objects.{NotifiesKnown, ObjectsHold, each_of_all}

module _ {P : Type 0} (bodies : Bodies P) (count : ℕ) where
  abbrev pub all_known : Given P
  all_known = record { bodies = bodies; count = count; Handles = λ h. Unit {0}; Known = λ th c. Unit {0}; Waits = λ w. Unit {0}; Sends = λ signal. Unit {0}; Pends = λ r. Unit {0} }

  pub any_action : (a : SigAction) → ActionKnown all_known a
  any_action action.Kill = tt
  any_action action.Ignore = tt
  any_action (action.Handler h) = tt

  pub any_objects : (timers : List Timer) (queues : List Queue) (pending : List SignalRecord) → ObjectsHold all_known timers queues pending
  any_objects timers queues pending = record {
    of_timers = each_of_all (λ (k : Timer). Unit {0}) timers (λ k. tt);
    of_queues = each_of_all (NotifiesKnown all_known) queues (λ q r e. tt);
    of_records = each_of_all (λ (r : SignalRecord). Unit {0}) pending (λ r. tt);
  }

  pub any_unit : (th : Thread P) (u : units.Unit) → UnitKnown all_known th u
  any_unit th (unit.Run n) = tt
  any_unit th (unit.Make c) = tt
  any_unit th unit.Jump = tt
  any_unit th unit.Finish = tt
