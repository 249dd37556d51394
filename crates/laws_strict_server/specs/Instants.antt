-- The instants of a strict server, one after another, and the law of its window. All of it is this project's own.
--
-- One tick of the machine does this with the server of a thread, in order: the replenishments that are due are carried out; an open
-- run of high ticks is closed where the thread is not the head; a run is opened where the thread is the head with its high
-- priority and none is open; a tick at the high priority is charged; and where the thread then blocks or has no capacity, the run
-- is closed. What decides who is the head, and when the thread blocks, is left open.
use Rattle.std.specs.Prelude.{ℕ, ◌+◌, ◌≤◌, Bool, true, false, not, ◌&&◌, ◌||◌, ◌==◌, nat_lt, nat_le, if◌then◌else◌, Option, None, Some, List, [], ◌∷◌, length}
use Rattle.words_numbers.specs.Parameters.{Parameters, AreParameters}
use Rattle.rules_server.specs.declared.Replenish.{Replenish}
use Rattle.rules_server.specs.Server.{ServerState, new_server_as, charge, activate, refill_from, set_high}
use Rattle.rules_server.specs.declared.ServerKind.TheVariants as kind
use Rattle.laws_strict_server.specs.Kinds.{is_high_strict, plan_strict}

-- what a tick of the machine is to the server's thread
pub record Step : Type 0 where
  -- whether it is the head
  pub is_head : Bool
  -- whether it blocks in this tick
  pub blocks : Bool
  -- the high priority that the tick sets
  pub priority : Option ℕ

abbrev pub is_high : ServerState → Bool
is_high s = is_high_strict s

-- ---- the parts of a tick

-- the replenishments whose due tick has come, the oldest first
abbrev pub refilled_from : List Replenish → ℕ → ServerState → ServerState
refilled_from [] now s = s
refilled_from (r ∷ rs) now s = if nat_le r.due now then refilled_from rs now (refill_from (r ∷ rs) s) else s

abbrev pub refilled : ℕ → ServerState → ServerState
refilled now s = refilled_from s.pending now s

-- a run of high ticks is open
abbrev pub is_open : ServerState → Bool
is_open s = nat_lt 0 s.consumed

abbrev pub plans_if : Bool → ServerState → ServerState
plans_if true s = plan_strict s
plans_if false s = s

abbrev pub opens_if : Bool → ℕ → ServerState → ServerState
opens_if true now s = activate now s
opens_if false now s = s

abbrev pub charges_if : Bool → ServerState → ServerState
charges_if true s = charge s
charges_if false s = s

abbrev pub sets_high : Option ℕ → ServerState → ServerState
sets_high None s = s
sets_high (Some p) s = set_high p s

-- Close: the thread is not the head.
abbrev pub closed : Bool → ServerState → ServerState
closed is_head s = plans_if (not is_head && is_open s) s

-- Open: the thread is the head, at its high priority.
abbrev pub opened : Bool → ℕ → ServerState → ServerState
opened runs_high now s = opens_if (runs_high && not (is_open s)) now s

-- the rule of the tick's end
abbrev pub ended : Bool → Bool → ServerState → ServerState
ended runs_high blocks s = plans_if (runs_high && (blocks || s.capacity == 0)) s

-- ---- a tick, and many

-- the server as its thread's tick begins, but for Close and Open
abbrev pub ready : ℕ → ServerState → ServerState
ready now s = refilled now s

-- whether the tick is one at the high priority
abbrev pub runs_high : Step → ℕ → ServerState → Bool
runs_high x now s = x.is_head && is_high (ready now s)

abbrev pub begun : Step → ℕ → ServerState → ServerState
begun x now s = opened (runs_high x now s) now (closed x.is_head (ready now s))

abbrev pub run : Step → ℕ → ServerState → ServerState
run x now s = sets_high x.priority (charges_if (runs_high x now s) (begun x now s))

-- the server one tick later
abbrev pub ticked : Step → ℕ → ServerState → ServerState
ticked x now s = ended (runs_high x now s) x.blocks (run x now s)

-- the server after these ticks, the first of them at now
abbrev pub after : List Step → ℕ → ServerState → ServerState
after [] now s = s
after (x ∷ xs) now s = after xs (now + 1) (ticked x now s)

abbrev pub one_if : Bool → ℕ
one_if true = 1
one_if false = 0

-- how many of these ticks are at the high priority
abbrev pub high_ticks : List Step → ℕ → ServerState → ℕ
high_ticks [] now s = 0
high_ticks (x ∷ xs) now s = one_if (runs_high x now s) + high_ticks xs (now + 1) (ticked x now s)

-- ---- the law

-- Whatever happened since the server was new, the ticks of one period hold at most its initial budget of high ticks.
abbrev pub WindowLaw : Type 0
WindowLaw = (p : Parameters) (start : ℕ) (before window : List Step) → AreParameters p → length window ≤ p.period →
    high_ticks window (start + length before) (after before start (new_server_as kind.Strict p start)) ≤ p.budget
