-- A quiet tick: nothing is due, and the tick completes no unit, uses up no slice and brings no capacity to 0. It changes the head's
-- charge, the instant and the last dispatch alone.
use Rattle.std.proofs.Common.{Bool, None, ap, arith, false, refl, suc, true, zero, ℕ, ◌≡◌}
use Rattle.std.specs.Prelude.{nat_lt, ◌==◌, ◌&&◌, ◌||◌, if◌then◌else◌}
use Rattle.rules_machine.specs.Bodies.{Bodies}
use Rattle.rules_machine.specs.State.{Thread}
use Rattle.rules_machine.specs.Threads.{is_blocked, is_runnable, top_left}
use Rattle.rules_machine.specs.Turns.{Turn}
use Rattle.rules_machine.specs.DueItems.{item_then, items_done, next_item}
use Rattle.rules_machine.specs.Ticks.{capacity_in, consumed_in, exhausting, nothing, planning, runs, slice_is_used, slicing, tick_end}
use Rattle.rules_machine.specs.Eventful.{tick_matters}

-- ---- what a quiet tick is not

pub no_end : (was_high some blocked runnable spent used : Bool) → blocked ≡ false → used ≡ false → (was_high && spent) ≡ false →
    (if was_high && some && blocked then planning else if was_high && some && runnable && spent then exhausting else if used then slicing else nothing) ≡ nothing
no_end true true true runnable spent used b u s = absurd (grind arith)
no_end true true false true true used b u s = absurd (grind arith)
no_end true true false true false true b u s = absurd (grind arith)
no_end true true false true false false b u s = refl
no_end true true false false spent true b u s = absurd (grind arith)
no_end true true false false spent false b u s = refl
no_end true false blocked runnable spent true b u s = absurd (grind arith)
no_end true false blocked runnable spent false b u s = refl
no_end false some blocked runnable spent true b u s = absurd (grind arith)
no_end false some blocked runnable spent false b u s = refl

pub quiet_end : {P : Type 0} (was_high : Bool) (quantum : ℕ) (th : Thread P) → is_blocked th.status ≡ false → tick_matters was_high quantum th ≡ false → tick_end was_high quantum th ≡ nothing
quiet_end was_high quantum th runs e =
    no_end was_high (nat_lt 0 (consumed_in th.server)) (is_blocked th.status) (is_runnable th.status) (capacity_in th.server == 0) (slice_is_used th.policy th.slice quantum) runs
    (of_three (top_left th.frames == 0) (slice_is_used th.policy th.slice quantum) (was_high && capacity_in th.server == 0) e).0
    (of_three (top_left th.frames == 0) (slice_is_used th.policy th.slice quantum) (was_high && capacity_in th.server == 0) e).1
  where
    of_three : (a b c : Bool) → (a || b || c) ≡ false → (b ≡ false) × (c ≡ false)
    of_three a b c e = (grind arith, grind arith)

pub left_over : {P : Type 0} (was_high : Bool) (quantum : ℕ) (th : Thread P) → tick_matters was_high quantum th ≡ false → (l : ℕ) × (top_left th.frames ≡ suc l)
left_over was_high quantum th e = by_left (top_left th.frames) refl
  where
    by_left : (n : ℕ) → top_left th.frames ≡ n → (l : ℕ) × (top_left th.frames ≡ suc l)
    by_left zero h = absurd (grind arith)
    by_left (suc l) h = (l, h)

module _ {P : Type 0} (bodies : Bodies P) where
  pub idle_items : (most : ℕ) (s : Turn P) → next_item s.machine ≡ None → items_done bodies most s ≡ s
  idle_items zero s e = refl
  idle_items (suc most) s e = ap (λ o. item_then bodies o (items_done bodies most) s) e
