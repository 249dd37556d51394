-- A sporadic server as plain data, and what each call does to it.
--
-- Where no other source is named, a definition here is from IEEE 1003.1-2017, XSH 2.8.4 Process Scheduling, under
-- Scheduling Policies, SCHED_SPORADIC. The unit of time is the tick. That execution time is counted in whole ticks,
-- and the two totals, are this project's own.
use Rattle.std.specs.Prelude.{◌≡◌, ℕ, zero, suc, ◌+◌, ◌-◌, ◌≤◌, ◌^◌, min, Bool, true, false, not, ◌&&◌, nat_lt, if◌then◌else◌, Option, List, [], ◌∷◌, ◌++◌, length, sum_by, All, slice_get}
use Rattle.std.specs.Option.{option_map}
use Rattle.words_numbers.specs.Parameters.{Parameters, AreParameters}
use Rattle.rules_server.specs.declared.Replenish.{Replenish}
use Rattle.rules_server.specs.declared.ServerKind.{ServerKind}
use Rattle.rules_server.specs.declared.ServerKind.TheVariants as kind
use Rattle.rules_server.specs.declared.BudgetLine.{BudgetLine}

-- what a server knows, at an instant
pub record ServerState : Type 0 where
  -- the rule by which it plans
  pub kind : ServerKind
  -- the priorities, the replenishment period, the initial budget and the greatest number of pending replenishments
  pub params : Parameters
  -- the available execution capacity
  pub capacity : ℕ
  -- the activation time
  pub activation : ℕ
  -- the execution time used since the activation time and not yet planned to come back
  pub consumed : ℕ
  -- the pending replenishments, the oldest first
  pub pending : List Replenish
  -- all ticks that were ever charged
  pub high_total : ℕ
  -- all amounts that were ever replenished
  pub refilled_total : ℕ

-- A server begins with its initial budget as its capacity, and with nothing pending.
abbrev pub new_server : Parameters → ℕ → ServerState
new_server p now = record {
  kind = kind.Sporadic;
  params = p;
  capacity = p.budget;
  activation = now;
  consumed = 0;
  pending = [];
  high_total = 0;
  refilled_total = 0;
}

abbrev pub new_server_as : ServerKind → Parameters → ℕ → ServerState
new_server_as kind p now = record (new_server p now) { kind = kind }

-- whether one more replenishment may become pending
abbrev pub has_room : ServerState → Bool
has_room s = nat_lt (length s.pending) s.params.max

-- The assigned priority is the high one where capacity is left and one more replenishment may become pending. A strict server asks
-- for capacity alone (this project's own).
abbrev pub is_high_as : ServerKind → ℕ → ℕ → ℕ → Bool
is_high_as kind.Sporadic capacity pending max = nat_lt 0 capacity && nat_lt pending max
is_high_as kind.Strict capacity pending max = nat_lt 0 capacity

abbrev pub is_high : ServerState → Bool
is_high s = is_high_as s.kind s.capacity (length s.pending) s.params.max

abbrev pub assigned : ServerState → ℕ
assigned s = if is_high s then s.params.high else s.params.low

-- One tick of execution at the high priority is taken from the capacity.
abbrev pub charge : ServerState → ServerState
charge s = record s {
  capacity = s.capacity - 1;
  consumed = s.consumed + 1;
  high_total = s.high_total + 1;
}

-- That many ticks of execution, one after another.
abbrev pub charge_ticks : ℕ → ServerState → ServerState
charge_ticks zero s = s
charge_ticks (suc k) s = charge (charge_ticks k s)

-- The activation time is posted.
abbrev pub activate : ℕ → ServerState → ServerState
activate now s = record s { activation = now }

-- The replenishment amount is the execution time used since the activation time, and the replenishment time is the
-- activation time plus the replenishment period.
abbrev pub replenishment : ServerState → Replenish
replenishment s = record { amount = s.consumed; due = s.activation + s.params.period }

-- An amount is added to the last of these, q and those after it, which takes the new due tick (this project's own).
abbrev pub joined_after : Replenish → Replenish → List Replenish → List Replenish
joined_after r q [] = record { amount = q.amount + r.amount; due = r.due } ∷ []
joined_after r q (next ∷ rest) = q ∷ joined_after r next rest

abbrev pub joined : Replenish → List Replenish → List Replenish
joined r [] = r ∷ []
joined r (q ∷ rest) = joined_after r q rest

-- A strict server with the greatest number of pending replenishments joins the new one to the last (this project's own).
abbrev pub joins_as : ServerKind → ℕ → ℕ → Bool
joins_as kind.Sporadic pending max = false
joins_as kind.Strict pending max = not (nat_lt pending max)

abbrev pub planned_in : Bool → Replenish → List Replenish → List Replenish
planned_in false r pending = pending ++ r ∷ []
planned_in true r pending = joined r pending

-- That replenishment becomes the last of the pending ones, or joins it, and nothing counts as used any more.
abbrev pub plan : ServerState → ServerState
plan s = record s { consumed = 0; pending = planned_in (joins_as s.kind (length s.pending) s.params.max) (replenishment s) s.pending }

-- The capacity that an amount leads to: it is rounded down to the initial budget where it would become larger.
abbrev pub replenished : ℕ → ServerState → ℕ
replenished amount s = min (s.capacity + amount) s.params.budget

-- The oldest of these replenishments is carried out, and the others stay pending.
abbrev pub refill_from : List Replenish → ServerState → ServerState
refill_from [] s = s
refill_from (oldest ∷ later) s = record s {
  capacity = replenished oldest.amount s;
  pending = later;
  refilled_total = s.refilled_total + oldest.amount;
}

-- The oldest pending replenishment is carried out, if there is one. The activation time stays.
abbrev pub refill : ServerState → ServerState
refill s = refill_from s.pending s

-- the replenishment that is carried out next
abbrev pub oldest_pending : ServerState → Option Replenish
oldest_pending s = slice_get s.pending 0

-- when that is due
abbrev pub next_due : ServerState → Option ℕ
next_due s = option_map (λ r. r.due) (oldest_pending s)

-- Another high priority, and all else as it was (this project's own).
abbrev pub set_high : ℕ → ServerState → ServerState
set_high p s = record s { params = record (s.params) { high = p } }

-- The totals that are told at the end of a run (this project's own).
abbrev pub totals : ServerState → BudgetLine
totals s = record {
  high = s.high_total;
  init = s.params.budget;
  refilled = s.refilled_total;
  capacity = s.capacity;
}

-- the sum of the amounts that are pending
abbrev pub pending_total : ServerState → ℕ
pending_total s = sum_by (λ r. r.amount) s.pending

-- What can be used, what is pending and what was used add up to the initial budget, and each tick at the high priority came
-- from the initial budget or from a replenishment (this project's own, and a consequence of the rules above).
pub record AddsUp (s : ServerState) : Type 0 where
  pub budget : s.capacity + pending_total s + s.consumed ≡ s.params.budget
  pub totals : s.high_total + s.capacity ≡ s.params.budget + s.refilled_total

-- The budget adds up, and each pending amount fits beside the capacity, so that no replenishment is ever rounded down
-- (this project's own, and a consequence of the rules above).
pub record KeepsBudget (s : ServerState) : Type 0 where
  pub adds_up : AddsUp s
  pub uncut : All (λ r. s.capacity + r.amount ≤ s.params.budget) s.pending

-- What each server is, at every instant.
pub record IsServer (s : ServerState) : Type 0 where
  pub parameters : AreParameters s.params
  pub adds_up : AddsUp s
  pub activation_small : s.activation ≤ 10 ^ 18
  pub high_small : s.high_total ≤ 10 ^ 18
  pub few_pending : length s.pending ≤ s.params.max
  pub amounts_above_zero : All (λ r. 1 ≤ r.amount) s.pending
