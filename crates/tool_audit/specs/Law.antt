-- The law of the budget, of the lines of a trace: what holds at each line of a trace that breaks no rule. This project's own.
use Rattle.std.specs.Prelude.{◌≡◌, ℕ, ◌+◌, ◌≤◌, if◌then◌else◌, List, [], ◌∷◌, ◌++◌, length, Option, None, Some, map, filter_map}
use Rattle.std.specs.List.{sum}
use Rattle.script_lex.specs.Lines.{lines_of}
use Rattle.tool_check.specs.Lines.{Reading, reading}
use Rattle.tool_audit.specs.Server.{Limits, NamedServer}
use Rattle.tool_audit.specs.Breach.{is_closing}
use Rattle.tool_audit.specs.Marks.{Mark, Saying, marks_of, is_planned, is_refilled}
use Rattle.tool_audit.specs.Ticks.{amount_planned, amount_refilled, high_before, in_all}
use Rattle.tool_audit.specs.Rules.{Planned, active_since, open_plans, plans_of}

-- a refill, with its instant
abbrev pub refilled_at : ℕ → Saying → Option Planned
refilled_at time (is_refilled amount capacity) = Some (record { amount = amount; from = time })
refilled_at time other = None

abbrev pub refills_of : List Mark → List Planned
refills_of ms = filter_map (λ (m : Mark). refilled_at m.time m.saying) ms

-- a plan is of the high ticks since the last activation, at least one, and due one period after it
abbrev pub PlanFits : Limits → List Mark → List Mark → ℕ → Saying → Type 0
PlanFits s before lines now (is_planned amount due) =
    (at : ℕ) × (active_since None before ≡ Some at) × (1 ≤ amount) × (amount + high_before s lines at ≡ high_before s lines now) × (due ≡ at + s.period)
PlanFits s before lines now other = Unit {0}

-- at a line, behind these
pub record LawAt (s : Limits) (before : List Mark) (m : Mark) : Type 0 where
  -- what may still be used, and what was used and is not planned
  pub capacity : ℕ
  pub consumed : ℕ
  -- the high ticks are the initial budget and what was refilled, but for the capacity
  pub is_capacity : high_before s (before ++ m ∷ []) m.time + capacity ≡ s.budget + in_all amount_refilled before
  pub is_consumed : in_all amount_planned before + consumed ≡ high_before s (before ++ m ∷ []) m.time
  -- the initial budget is the capacity, what is pending, and what is consumed
  pub adds_up : capacity + sum (map (λ (p : Planned). p.amount) (open_plans before)) + consumed ≡ s.budget
  -- the refills, and behind them the pending plans, are the plans in order; each refill comes at the later of its plan's due tick and time
  pub in_order : refills_of before ++ open_plans before ≡ plans_of before
  pub planned : PlanFits s before (before ++ m ∷ []) m.time m.saying
  pub few : length (open_plans before) ≤ s.max

-- at each of these lines, the first of which stands behind those
abbrev pub LawHolds : Limits → List Mark → List Mark → Type 0
LawHolds s before [] = Unit {0}
LawHolds s before (m ∷ ms) = LawAt s before m × LawHolds s (before ++ m ∷ []) ms

-- the lines up to the first closing line
abbrev pub timed_part : List Reading → List Reading
timed_part [] = []
timed_part (r ∷ rs) = if is_closing r.form then [] else (r ∷ timed_part rs)

-- the readings of lines that are all lines of a trace
abbrev pub AreReadings : List (Option Reading) → List Reading → Type 0
AreReadings found rs = found ≡ map Some rs

-- The lines of a trace keep the law, for each of these servers: its lines are trace lines, and at each of those before the closing lines
-- the law holds.
abbrev pub EachServer : (NamedServer → Type 0) → List NamedServer → Type 0
EachServer Law [] = Unit {0}
EachServer Law (s ∷ servers) = Law s × EachServer Law servers

pub record KeepsLaw (servers : List NamedServer) (trace : List ℕ) : Type 0 where
  pub readings : List Reading
  pub are : AreReadings (map reading (lines_of trace)) readings
  pub each : EachServer (λ (s : NamedServer). LawHolds s.limits [] (marks_of s.name (timed_part readings))) servers
