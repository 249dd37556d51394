-- Which ticks a thread ran, and which of them were ticks at its high priority, as the lines of a trace tell it. It is counted over all
-- these lines, tick by tick. This project's own.
use Rattle.std.specs.Prelude.{ℕ, zero, suc, ◌+◌, ◌&&◌, nat_lt, nat_le, Bool, true, false, if◌then◌else◌, List, [], ◌∷◌, map}
use Rattle.std.specs.List.{sum, list_any}
use Rattle.tool_audit.specs.Server.{Limits}
use Rattle.tool_audit.specs.Marks.{Mark, Saying, is_given, is_taken, is_planned, is_refilled}

-- ---- what a line counts for

abbrev pub amount_refilled : Saying → ℕ
amount_refilled (is_refilled amount capacity) = amount
amount_refilled other = 0

abbrev pub amount_planned : Saying → ℕ
amount_planned (is_planned amount due) = amount
amount_planned other = 0

abbrev pub one_refill : Saying → ℕ
one_refill (is_refilled amount capacity) = 1
one_refill other = 0

abbrev pub one_plan : Saying → ℕ
one_plan (is_planned amount due) = 1
one_plan other = 0

abbrev pub counted_if : Bool → ℕ → ℕ
counted_if counts n = if counts then n else 0

-- the sum over all lines
abbrev pub in_all : (Saying → ℕ) → List Mark → ℕ
in_all count ms = sum (map (λ (m : Mark). count m.saying) ms)

-- the sum over the lines of times up to x
abbrev pub up_to : ℕ → (Saying → ℕ) → List Mark → ℕ
up_to x count ms = sum (map (λ (m : Mark). counted_if (nat_le m.time x) (count m.saying)) ms)

-- ---- the ticks that the thread ran

-- whether the thread has the processor after a line
abbrev pub has_after : Saying → Bool → Bool
has_after is_given was = true
has_after is_taken was = false
has_after other was = was

abbrev pub has_if : Bool → Saying → Bool → Bool
has_if counts what was = if counts then has_after what was else was

-- whether the last dispatch or idle line with a time of at most x gives the processor to it
abbrev pub has_at : ℕ → Bool → List Mark → Bool
has_at x was [] = was
has_at x was (m ∷ ms) = has_at x (has_if (nat_le m.time x) m.saying was) ms

-- whether tick x is below the time of one of these lines
abbrev pub is_over : ℕ → List Mark → Bool
is_over x ms = list_any (λ (m : Mark). nat_lt x m.time) ms

abbrev pub ran : List Mark → ℕ → Bool
ran ms x = is_over x ms && has_at x false ms

-- how many ticks below x it ran
abbrev pub ran_before : List Mark → ℕ → ℕ
ran_before ms zero = 0
ran_before ms (suc x) = ran_before ms x + counted_if (ran ms x) 1

-- ---- those at its high priority

-- Something was left of the initial budget and what was refilled, and one more replenishment could become pending; `high` is how many
-- ticks before x were high.
abbrev pub could_be_high : Limits → List Mark → ℕ → ℕ → Bool
could_be_high s ms x high = nat_lt high (s.budget + up_to x amount_refilled ms) && nat_lt (up_to x one_plan ms) (s.max + up_to x one_refill ms)

abbrev pub is_high : Limits → List Mark → ℕ → ℕ → Bool
is_high s ms x high = ran ms x && could_be_high s ms x high

abbrev pub and_tick : Limits → List Mark → ℕ → ℕ → ℕ
and_tick s ms x high = high + counted_if (is_high s ms x high) 1

-- how many ticks below x were high
abbrev pub high_before : Limits → List Mark → ℕ → ℕ
high_before s ms zero = 0
high_before s ms (suc x) = and_tick s ms x (high_before s ms x)

-- whether tick x was high
abbrev pub was_high : Limits → List Mark → ℕ → Bool
was_high s ms x = is_high s ms x (high_before s ms x)
