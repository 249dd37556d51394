-- The law of the budget: what the events of a run say of a thread's server. XSH 2.8.4 SCHED_SPORADIC; the law itself is this
-- project's own.
use Rattle.std.specs.Prelude.{All, Bool, List, None, Option, Some, [], false, filter_map, flat_map, length, map, max, suc, take, true, zero, ℕ, ◌≡◌, ◌≤◌, ◌+◌, ◌==◌, ◌&&◌, ◌∷◌, ◌++◌, if◌then◌else◌}
use Rattle.std.specs.List.{sum}
use Rattle.words_script.specs.declared.call.Call.TheVariants as call
use Rattle.rules_bodies.specs.declared.unit.Unit.{Unit}
use Rattle.rules_bodies.specs.declared.unit.Unit.TheVariants as unit
use Rattle.words_trace.specs.declared.event.Event.{Event}
use Rattle.words_trace.specs.declared.event.Event.TheVariants as event
use Rattle.words_trace.specs.Text.{Entry}
use Rattle.rules_server.specs.declared.Replenish.{Replenish}
use Rattle.rules_server.specs.declared.ServerKind.{ServerKind}
use Rattle.rules_server.specs.declared.ServerKind.TheVariants as server_kind
use Rattle.rules_server.specs.Server.{ServerState, pending_total}
use Rattle.rules_machine.specs.Bodies.{Bodies}
use Rattle.rules_machine.specs.State.{Machine}
use Rattle.rules_machine.specs.Threads.{lives, thread_at}
use Rattle.rules_machine.specs.Turns.{◌▷◌}
use Rattle.rules_machine.specs.Servers.{has_high}
use Rattle.rules_machine.specs.Dispatch.{head, runner}
use Rattle.rules_machine.specs.Units.{in_unit}
use Rattle.rules_machine.specs.Runs.{tick_begun, tick_prepared, tick_run, ticks}
use Rattle.rules_machine.specs.Throughout.{after_items, turn_after}
use Rattle.rules_machine.specs.GoodState.{has_server_policy}

-- ---- the account of a server

-- what is entered in it: a tick at the high priority, or an event of the thread, with its time
pub data ServerEvent : Type 0 where
  used : ServerEvent
  activated : ℕ → ServerEvent
  -- the amount, and when it is due
  planned : ℕ → Replenish → ServerEvent
  refilled : ℕ → ℕ → ServerEvent

abbrev pub recorded_if : Bool → ServerEvent → List ServerEvent → List ServerEvent
recorded_if true entry account = account ++ entry ∷ []
recorded_if false entry account = account

-- The thread's activations, plans and refills are entered, and its start begins a new account.
abbrev pub recorded : ℕ → ℕ → Event → List ServerEvent → List ServerEvent
recorded t time (event.Start u) account = if u == t then [] else account
recorded t time (event.Activate u capacity) account = recorded_if (u == t) (activated time) account
recorded t time (event.Plan u amount due) account = recorded_if (u == t) (planned time (record { amount = amount; due = due })) account
recorded t time (event.Refill u amount capacity) account = recorded_if (u == t) (refilled time amount) account
recorded t time other account = account

abbrev pub all_recorded : ℕ → List Entry → List ServerEvent → List ServerEvent
all_recorded t [] account = account
all_recorded t (e ∷ entries) account = all_recorded t entries (recorded t e.time e.event account)

-- whether a unit gives the thread a new server: a setsched of it
abbrev pub renews : ℕ → Unit → Bool
renews t (unit.Make (call.Setsched u policy)) = u == t
renews t other = false

module _ {P : Type 0} (bodies : Bodies P) where
  -- The runner's tick is entered where it is one of the thread at its high priority. A setsched of a thread that lives gives it a new
  -- server, and that begins a new account.
  abbrev pub recorded_tick : ℕ → Option ℕ → Machine P → List ServerEvent → List ServerEvent
  recorded_tick t None m account = account
  recorded_tick t (Some u) m account =
      if renews t (in_unit bodies (thread_at m u)).unit then (if lives m t then [] else account)
      else recorded_if (u == t && has_high (thread_at m t).server) used account

  -- the account after one tick more: the events that begin it, those that precede the tick of the head, that tick itself, and its events
  abbrev pub ticked_account : ℕ → Machine P → List ServerEvent → List ServerEvent
  ticked_account t m account =
      let begun = tick_begun bodies m in
      let ready = tick_prepared bodies begun.machine in
      account
      ▷ all_recorded t begun.events
      ▷ all_recorded t ready.events
      ▷ recorded_tick t (runner begun.machine) ready.machine
      ▷ all_recorded t (tick_run bodies (head begun.machine) ready.machine).events

  -- the account of a thread's server after n ticks, since that server was new
  abbrev pub account : ℕ → Machine P → ℕ → List ServerEvent
  account t start zero = []
  account t start (suc n) = ticked_account t (ticks bodies n start).machine (account t start n)

-- ---- what is read off an account

abbrev pub used_one : ServerEvent → ℕ
used_one used = 1
used_one (activated time) = 0
used_one (planned time r) = 0
used_one (refilled time amount) = 0

abbrev pub high_ticks : List ServerEvent → ℕ
high_ticks account = sum (map used_one account)

-- a plan, with the instant from which on it can be carried out: when it is due, or when it is made if that is later
pub record Plan : Type 0 where
  pub amount : ℕ
  pub due : ℕ
  pub from : ℕ

abbrev pub plan_in : ServerEvent → Option Plan
plan_in used = None
plan_in (activated time) = None
plan_in (planned time r) = Some (record { amount = r.amount; due = r.due; from = max r.due time })
plan_in (refilled time amount) = None

abbrev pub plans_in : List ServerEvent → List Plan
plans_in account = filter_map plan_in account

abbrev pub refill_amount : ServerEvent → Option ℕ
refill_amount used = None
refill_amount (activated time) = None
refill_amount (planned time r) = None
refill_amount (refilled time amount) = Some amount

abbrev pub refill_amounts : List ServerEvent → List ℕ
refill_amounts account = filter_map refill_amount account

abbrev pub refill_time : ServerEvent → Option ℕ
refill_time used = None
refill_time (activated time) = None
refill_time (planned time r) = None
refill_time (refilled time amount) = Some time

abbrev pub refill_times : List ServerEvent → List ℕ
refill_times account = filter_map refill_time account

-- The replenishments as they should have been planned: the high ticks since the last activation, one period after it.
abbrev pub expected_since : ℕ → ℕ → ℕ → List ServerEvent → List Replenish
expected_since period count since [] = []
expected_since period count since (used ∷ rest) = expected_since period (count + 1) since rest
expected_since period count since (activated time ∷ rest) = expected_since period 0 time rest
expected_since period count since (planned time r ∷ rest) = record { amount = count; due = since + period } ∷ expected_since period count since rest
expected_since period count since (refilled time amount ∷ rest) = expected_since period count since rest

abbrev pub expected_plans : ℕ → List ServerEvent → List Replenish
expected_plans period account = expected_since period 0 0 account

abbrev pub replenishment_in : Plan → Replenish
replenishment_in p = record { amount = p.amount; due = p.due }

-- whether each plan stands behind an activation; the flag says whether one came before
abbrev pub plans_follow : Bool → List ServerEvent → Bool
plans_follow active [] = true
plans_follow active (used ∷ rest) = plans_follow active rest
plans_follow active (activated time ∷ rest) = plans_follow true rest
plans_follow active (planned time r ∷ rest) = active && plans_follow active rest
plans_follow active (refilled time amount ∷ rest) = plans_follow active rest

-- ---- the law

-- One by one, in order: each refill came when its plan was due, or at once where that had passed.
pub record OneByOne (s : ServerState) (account : List ServerEvent) : Type 0 where
  pub in_order : refill_amounts account ++ map (λ (r : Replenish). r.amount) s.pending ≡ map (λ (p : Plan). p.amount) (plans_in account)
  pub on_time : refill_times account ≡ take (length (refill_times account)) (map (λ (p : Plan). p.from) (plans_in account))

-- some plans, one after another, and what they come to as one replenishment: their sum, due with the last
pub record Group : Type 0 where
  pub first : Replenish
  pub later : List Replenish

abbrev pub joined_with : Replenish → List Replenish → Replenish
joined_with r [] = r
joined_with r (next ∷ later) = joined_with (record { amount = r.amount + next.amount; due = next.due }) later

-- These plans fall into groups of neighbours, one for each of these replenishments.
pub record FallInto (plans replenishments : List Replenish) : Type 0 where
  pub groups : List Group
  pub in_order : flat_map (λ (g : Group). g.first ∷ g.later) groups ≡ plans
  pub each : map (λ (g : Group). joined_with g.first g.later) groups ≡ replenishments

abbrev pub refill_in : ServerEvent → Option Replenish
refill_in used = None
refill_in (activated time) = None
refill_in (planned time r) = None
refill_in (refilled time amount) = Some (record { amount = amount; due = time })

-- the refills as replenishments that were due when they came
abbrev pub refills_in : List ServerEvent → List Replenish
refills_in account = filter_map refill_in account

-- A strict server joins plans to the last one where too many would be pending. Each refill came when the last plan of its group was due.
abbrev pub FollowsPlans : ServerKind → ServerState → List ServerEvent → Type 0
FollowsPlans server_kind.Sporadic s account = OneByOne s account
FollowsPlans server_kind.Strict s account = FallInto (map replenishment_in (plans_in account)) (refills_in account ++ s.pending)

pub record KeepsAccount (s : ServerState) (account : List ServerEvent) : Type 0 where
  -- the high ticks are the initial budget and all refilled amounts, but for the capacity
  pub high : high_ticks account + s.capacity ≡ s.params.budget + sum (refill_amounts account)
  -- the totals are those of the account
  pub high_total : s.high_total ≡ high_ticks account
  pub refilled_total : s.refilled_total ≡ sum (refill_amounts account)
  -- the initial budget is the capacity, what is pending, and what is consumed
  pub budget : s.capacity + pending_total s + s.consumed ≡ s.params.budget
  -- what was refilled and what is pending is what was planned
  pub planned : FollowsPlans s.kind s account
  -- each plan is of what was consumed since the activation, and due one period after it
  pub follows : plans_follow false account ≡ true
  pub as_expected : map replenishment_in (plans_in account) ≡ expected_plans s.params.period account
  pub not_empty : All (λ (p : Plan). 1 ≤ p.amount) (plans_in account)

-- a live sporadic or strict thread has a server
abbrev pub KeepsServer : Option ServerState → List ServerEvent → Type 0
KeepsServer None account = ⊥
KeepsServer (Some s) account = KeepsAccount s account

module _ {P : Type 0} (bodies : Bodies P) (start : Machine P) where
  -- the account after n ticks and k items of that instant
  abbrev pub account_after : ℕ → ℕ → ℕ → List ServerEvent
  account_after t n k = all_recorded t (turn_after bodies start n k).events (account bodies t start n)

  -- the law after n ticks of a run from an opening state, and k items of that instant, of each live sporadic or strict thread
  pub record KeepsBudgets (n k : ℕ) : Type 0 where
    pub each : (t : ℕ) → lives (after_items bodies start n k) t ≡ true → has_server_policy (thread_at (after_items bodies start n k) t).policy ≡ true →
        KeepsServer (thread_at (after_items bodies start n k) t).server (account_after t n k)
