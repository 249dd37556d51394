-- The ticks to the nearest due tick, by the least of all.
use Rattle.std.proofs.Common.{◌≡◌, ◌≤◌, ◌+◌, ℕ, List, [], ◌∷◌, Bool, true, false, Option, None, Some, ap, arith, refl, sym, ◌∙◌}
use Rattle.std.specs.Prelude.{◌-◌, ◌^◌, min, nat_le, if◌then◌else◌}
use Rattle.rules_machine.specs.Agenda.{Coming}
use Rattle.rules_leaps.specs.Leap.{ticks_to_next}
use Rattle.parts_wheel.specs.Dues.{earlier}
use Rattle.kernel_table.specs.Times.{in_time, last_instant, least_due}

abbrev pub near : ℕ → ℕ → Option ℕ → ℕ
near most now None = most
near most now (Some due) = min (due - now) most

-- the earlier of two is the nearer of two
near_first : (most now due : ℕ) (o : Option ℕ) → min (due - now) (near most now o) ≡ near most now (earlier (Some due) o)
near_first most now due None = refl
near_first most now due (Some other) = grind arith

near_least : (most now : ℕ) (comings : List Coming) → ticks_to_next most now comings ≡ near most now (least_due comings)
near_least most now [] = refl
near_least most now (c ∷ comings) = ap (min (c.due - now)) (near_least most now comings) ∙ near_first most now c.due (least_due comings)

-- what is due after the last instant is farther than any leap goes
far : (most now : ℕ) (o : Option ℕ) → now + most ≤ 10 ^ 18 → near most now o ≡ near most now (in_time o)
far most now None early = refl
far most now (Some due) early = by_time (nat_le due last_instant) refl
  where
    by_time : (b : Bool) → nat_le due last_instant ≡ b → near most now (Some due) ≡ near most now (if b then Some due else None)
    by_time true e = refl
    by_time false e = grind arith

pub nearest : (most now : ℕ) (comings : List Coming) (o : Option ℕ) → now + most ≤ 10 ^ 18 → o ≡ in_time (least_due comings) → near most now o ≡ ticks_to_next most now comings
nearest most now comings o early e = ap (near most now) e ∙ sym (far most now (least_due comings) early) ∙ sym (near_least most now comings)
