-- The parts of a leap add their events behind those that were told before.
use Rattle.std.proofs.Common.{ℕ, Option, None, Some, ap, refl, ◌∙◌}
use Rattle.rules_machine.specs.Bodies.{Bodies}
use Rattle.rules_machine.specs.Dispatch.{head}
use Rattle.rules_machine.specs.Ticks.{prepares, unless_killed}
use Rattle.rules_machine.proofs.Behind.{AddsBehind}
use Rattle.rules_machine.proofs.BehindTicks.{prepares_behind}
use Rattle.rules_leaps.specs.Leap.{leap_goes_on, leap_head, leap_runs}
use Rattle.laws_leaps.proofs.Leaps.Law.{leap_runs_behind}

module _ {P : Type 0} (bodies : Bodies P) (k : ℕ) where
  leap_head_behind : AddsBehind (leap_head bodies k)
  leap_head_behind told s =
      ap (leap_runs bodies k (head s.machine)) (prepares_behind bodies (head s.machine) told s) ∙ leap_runs_behind bodies k (head s.machine) told (prepares (head s.machine) s)

  unless_behind : (o : Option ℕ) → AddsBehind (unless_killed o (leap_head bodies k))
  unless_behind None told s = leap_head_behind told s
  unless_behind (Some signal) told s = refl

  pub leap_goes_on_behind : AddsBehind (leap_goes_on bodies k)
  leap_goes_on_behind told s = unless_behind s.machine.killed told s
