-- A thread of a run that is told may leap up to the nearest due tick, and for fewer ticks.
use Rattle.std.proofs.Common.{◌≡◌, ◌+◌, ◌<◌, ◌≤◌, ◌^◌, ℕ, Bool, [], Some, arith, false, refl, subst, sym, true}
use Rattle.std.specs.Prelude.{is_some, nat_le}
use Rattle.parts_tracer.specs.declared.tracer.Tracer.{Tracer}
use Rattle.rules_machine.specs.Agenda.{agenda}
use Rattle.rules_machine.specs.Dispatch.{head}
use Rattle.rules_machine.specs.DueItems.{instant}
use Rattle.rules_machine.specs.Ticks.{prepares}
use Rattle.rules_flat_code.specs.FlatBodies.{flat_bodies}
use Rattle.rules_leaps.specs.Leap.{ticks_to_next}
use Rattle.kernel_wakes.specs.Calls.{objects_in}
use Rattle.kernel_state.specs.Kernel.{Kernel, after, told}
use Rattle.kernel_settling.specs.Stood.{StoodRight}
use Rattle.kernel_leaps.specs.Fits.{StaysFit}
use Rattle.kernel_leaps.specs.Passing.{MayLeapOn}
use Rattle.kernel_leaps.proofs.InUnit.{ticks_same}
use Rattle.kernel_leaps.proofs.Midway.{begun}
use Rattle.kernel_leaps.proofs.OneLeap.{faultless, tells_unheard, unheard}
use Rattle.kernel_leaps.proofs.PastUnits.{may_leap_on}

module _ {K : Type 0} (a : Tracer K) (start : Kernel) (fit : StaysFit start (objects_in start)) (stood : StoodRight start.machine) (quiet : start.direct ≡ [])
    (l p : Kernel) (t : ℕ) (handled : l ≡ after (instant (flat_bodies start.code)) start) (stands : StoodRight l.machine) (still : l.direct ≡ []) (alive : is_some l.machine.killed ≡ false)
    (top : Some t ≡ head l.machine) (given : p ≡ after (prepares (head l.machine)) l) where
  may_near : (most near : ℕ) → 1 ≤ most → near ≡ ticks_to_next most p.machine.now (agenda p.machine) → start.machine.now + most ≤ 10 ^ 18 → MayLeapOn near t p
  may_near most near some is early =
      may_leap_on unheard faultless start fit p t most near 0 a a
      (begun unheard faultless start fit l p (Some t) most near 0 a a a some stood quiet handled (tells_unheard start.names a (told (instant (flat_bodies start.code)) start)) stands still alive top given (tells_unheard l.names a (told (prepares (head l.machine)) l)) is)
      early

  pub may_within : (most near fewer : ℕ) → 1 ≤ most → near ≡ ticks_to_next most p.machine.now (agenda p.machine) → near ≤ most → fewer ≤ near → (fewer < near → 1 ≤ fewer) → start.machine.now + most ≤ 10 ^ 18 → MayLeapOn fewer t p
  may_within most near fewer some is within le low early = by_near (nat_le near fewer) refl
    where
      same : nat_le near fewer ≡ true → fewer ≤ near → near ≡ fewer
      same e le = grind arith

      less : nat_le near fewer ≡ false → fewer < near
      less e = grind arith

      by_near : (b : Bool) → nat_le near fewer ≡ b → MayLeapOn fewer t p
      by_near true e = subst (λ (n : ℕ). MayLeapOn n t p) (same e le) (may_near most near some is early)
      by_near false e =
          may_near fewer fewer (low (less e)) (sym (ticks_same (agenda p.machine) most p.machine.now fewer (subst (λ (n : ℕ). fewer ≤ n) is le))) (omega (arith, le, within, early))
