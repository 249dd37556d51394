-- A tick moves the instant by one, or not at all where the process has ended.
use Rattle.std.proofs.Common.{◌≡◌, ◌≤◌, ◌+◌, ℕ, zero, suc, Option, None, Some, ap, arith, refl, ◌∙◌}
use Rattle.rules_machine.specs.Bodies.{Bodies}
use Rattle.rules_machine.specs.DueItems.{instant}
use Rattle.rules_machine.specs.Runs.{ticks}
use Rattle.rules_machine.specs.State.{Machine}
use Rattle.rules_machine.specs.Ticks.{runs_head, tick, unless_killed}
use Rattle.rules_machine.specs.Turns.{Turn, turn_of}
use Rattle.rules_machine.proofs.Counting.{instant_now, tick_now}

pub record Passes (before after most : ℕ) : Type 0 where
  pub later : before ≤ after
  pub few : after ≤ before + most

module _ {P : Type 0} (bodies : Bodies P) where
  tick_passes : (s : Turn P) → Passes s.machine.now (tick bodies s).machine.now 1
  tick_passes s = by_killed (instant bodies s).machine.killed refl
    where
      by_killed : (o : Option ℕ) → (instant bodies s).machine.killed ≡ o → Passes s.machine.now (tick bodies s).machine.now 1
      by_killed None e = let now = tick_now bodies s e in record { later = omega (arith, now); few = omega (arith, now) }
      by_killed (Some signal) e =
          let now : (tick bodies s).machine.now ≡ s.machine.now = ap (λ (o : Option ℕ). (unless_killed o (runs_head bodies) (instant bodies s)).machine.now) e ∙ instant_now bodies s in
          record { later = omega (arith, now); few = omega (arith, now) }

  pub ticks_pass : (n : ℕ) (m : Machine P) → Passes m.now (ticks bodies n m).machine.now n
  ticks_pass zero m = record { later = omega arith; few = omega arith }
  ticks_pass (suc n) m =
      let before = ticks_pass n m in
      let one = tick_passes (turn_of (ticks bodies n m).machine) in
      let a = before.later in
      let b = before.few in
      let c = one.later in
      let d = one.few in
      record { later = omega (arith, a, c); few = omega (arith, b, d) }
