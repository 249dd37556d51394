-- The six rules of an audit. Each is judged of one line by that line and those before it alone; here of what they say of one thread.
-- This project's own.
use Rattle.std.specs.Prelude.{ℕ, zero, suc, ◌+◌, ◌-◌, ◌==◌, ◌&&◌, ◌||◌, not, nat_lt, nat_le, max, Bool, true, false, if◌then◌else◌, List, [], ◌∷◌, ◌++◌, Option, None, Some, filter_map, drop, slice_get}
use Rattle.std.specs.List.{list_any}
use Rattle.tool_audit.specs.Server.{Limits}
pub use Rattle.tool_audit.specs.declared.replay.Planned.{Planned}
use Rattle.tool_audit.specs.Marks.{Mark, Saying, begins, is_taken, is_activated, exhausts, is_planned, is_refilled, exits, nothing}
use Rattle.tool_audit.specs.Ticks.{amount_planned, amount_refilled, high_before, in_all, one_plan, one_refill, up_to, was_high}

-- ---- what the lines before say

abbrev pub is_begin : Saying → Bool
is_begin begins = true
is_begin other = false

abbrev pub is_exit : Saying → Bool
is_exit exits = true
is_exit other = false

abbrev pub has_started : List Mark → Bool
has_started ms = list_any (λ (m : Mark). is_begin m.saying) ms

abbrev pub has_exited : List Mark → Bool
has_exited ms = list_any (λ (m : Mark). is_exit m.saying) ms

abbrev pub lives_in : List Mark → Bool
lives_in ms = has_started ms && not (has_exited ms)

-- a plan, and the instant of its refill: the later of its due tick and its own time
abbrev pub planned_at : ℕ → Saying → Option Planned
planned_at time (is_planned amount due) = Some (record { amount = amount; from = max due time })
planned_at time other = None

abbrev pub plans_of : List Mark → List Planned
plans_of ms = filter_map (λ (m : Mark). planned_at m.time m.saying) ms

-- the plans without a refill, the oldest first
abbrev pub open_plans : List Mark → List Planned
open_plans ms = drop (in_all one_refill ms) (plans_of ms)

-- whether one plan more may be without a refill
abbrev pub has_room : Limits → List Mark → Bool
has_room s ms = nat_lt (in_all one_plan ms) (s.max + in_all one_refill ms)

-- the time of the last activation; none where there is none, or a plan stands behind it
abbrev pub active_after : ℕ → Saying → Option ℕ → Option ℕ
active_after time (is_activated capacity) was = Some time
active_after time (is_planned amount due) was = None
active_after time other was = was

abbrev pub active_since : Option ℕ → List Mark → Option ℕ
active_since was [] = was
active_since was (m ∷ ms) = active_since (active_after m.time m.saying was) ms

-- the capacity, where `high` ticks were high: what is left of the initial budget and the refills of the lines before
abbrev pub is_capacity : Limits → List Mark → ℕ → ℕ → Bool
is_capacity s before high n = n + high == s.budget + in_all amount_refilled before

-- ---- rule 1: one life

abbrev pub keeps_life : List Mark → Saying → Bool
keeps_life before begins = not (has_started before)
keeps_life before nothing = true
keeps_life before is_taken = true
keeps_life before other = lives_in before

-- ---- rule 2: plans

-- the high ticks since the activation, due one period after it
abbrev pub is_plan_since : Limits → List Mark → ℕ → Option ℕ → ℕ → ℕ → Bool
is_plan_since s lines now None amount due = false
is_plan_since s lines now (Some at) amount due =
    nat_le 1 amount && (amount + high_before s lines at == high_before s lines now && due == at + s.period)

abbrev pub keeps_plan : Limits → List Mark → List Mark → ℕ → Saying → Bool
keeps_plan s before lines now (is_planned amount due) = is_plan_since s lines now (active_since None before) amount due && has_room s before
keeps_plan s before lines now other = true

-- ---- rule 3: refills

-- the refill is that of the oldest plan without one
abbrev pub is_refill_of : Option Planned → ℕ → ℕ → Bool
is_refill_of None now amount = false
is_refill_of (Some p) now amount = amount == p.amount && now == p.from

abbrev pub keeps_refill : Limits → List Mark → List Mark → ℕ → Saying → Bool
keeps_refill s before lines now (is_refilled amount capacity) =
    is_refill_of (slice_get (open_plans before) 0) now amount
    && (capacity + high_before s lines now == s.budget + in_all amount_refilled before + amount && nat_le capacity s.budget)
keeps_refill s before lines now other = true

-- a refill is missing whose instant has passed
abbrev pub misses_refill : List Mark → ℕ → Bool
misses_refill before now = not (has_exited before) && list_any (λ (p : Planned). nat_lt p.from now) (open_plans before)

-- ---- rule 4: activations

abbrev pub keeps_activation : Limits → List Mark → List Mark → ℕ → Saying → Bool
keeps_activation s before lines now (is_activated capacity) =
    is_capacity s before (high_before s lines now) capacity
    && (nat_lt 0 capacity && (has_room s before && in_all amount_planned before == high_before s lines now))
keeps_activation s before lines now other = true

-- ---- rule 5: exhaustion

-- a high tick ended at this instant
abbrev pub ends_high : Limits → List Mark → ℕ → Bool
ends_high s lines zero = false
ends_high s lines (suc x) = was_high s lines x

abbrev pub keeps_exhaustion : Limits → List Mark → List Mark → ℕ → Saying → Bool
keeps_exhaustion s before lines now exhausts = is_capacity s before (high_before s lines now) 0 && ends_high s lines now
keeps_exhaustion s before lines now other = true

-- the thread plans or exits
abbrev pub settles : Saying → Bool
settles (is_planned amount due) = true
settles exits = true
settles other = false

abbrev pub settles_at : ℕ → List Mark → Bool
settles_at time ms = list_any (λ (m : Mark). m.time == time && settles m.saying) ms

-- tick x was high and used up the last of the capacity, and no plan and no exit stands where it ended
abbrev pub leaves_owing : Limits → List Mark → List Mark → ℕ → Bool
leaves_owing s before lines x =
    was_high s lines x && (high_before s lines (suc x) == s.budget + up_to x amount_refilled lines && not (settles_at (suc x) before))

-- one of the first n ticks did
abbrev pub one_owes : Limits → List Mark → List Mark → ℕ → Bool
one_owes s before lines zero = false
one_owes s before lines (suc n) = one_owes s before lines n || leaves_owing s before lines n

-- a tick that ended before now did
abbrev pub owes_plan : Limits → List Mark → List Mark → ℕ → Bool
owes_plan s before lines now = one_owes s before lines (now - 1)

-- ---- the least of rules 1 to 5 that a line breaks

abbrev pub if_broken : Bool → ℕ → Option ℕ → Option ℕ
if_broken holds rule rest = if holds then rest else Some rule

abbrev pub broken_at : Limits → List Mark → List Mark → Mark → Option ℕ
broken_at s before lines m =
    if_broken (keeps_life before m.saying) 1
    (if_broken (keeps_plan s before lines m.time m.saying) 2
    (if_broken (keeps_refill s before lines m.time m.saying && not (misses_refill before m.time)) 3
    (if_broken (keeps_activation s before lines m.time m.saying) 4
    (if_broken (keeps_exhaustion s before lines m.time m.saying && not (owes_plan s before lines m.time)) 5 None))))

-- the line, behind these
abbrev pub broken_by : Limits → List Mark → Mark → Option ℕ
broken_by s before m = broken_at s before (before ++ m ∷ []) m
