-- The servers of sporadic and strict threads: XSH 2.8.4 SCHED_SPORADIC. That a thread is activated also as it starts, and as it gets
-- a new policy, is this project's own, and so are strict servers.
use Rattle.std.specs.Prelude.{Bool, List, None, Option, Some, [], false, is_some, nat_lt, not, option_map, true, ℕ, ◌==◌, ◌&&◌, ◌∷◌, if◌then◌else◌}
use Rattle.words_script.specs.declared.policy.Policy.{Policy}
use Rattle.words_script.specs.declared.policy.Policy.TheVariants as policy
use Rattle.words_trace.specs.declared.event.Event.TheVariants as event
use Rattle.rules_server.specs.declared.Replenish.{Replenish}
use Rattle.rules_server.specs.declared.ServerKind.{ServerKind}
use Rattle.rules_server.specs.declared.ServerKind.TheVariants as kind
use Rattle.rules_server.specs.Server.{ServerState, activate, charge, is_high, new_server, new_server_as, oldest_pending, plan, refill, replenishment}
use Rattle.rules_machine.specs.Lists.{is}
use Rattle.rules_machine.specs.State.{Thread}
use Rattle.rules_machine.specs.Threads.{can_run, thread_at, thread_numbers}
use Rattle.rules_machine.specs.Turns.{Turn, changes, tells, ◌▷◌}

-- a sporadic or strict thread begins with a new server, and any other has none
abbrev pub server_of : Policy → ℕ → Option ServerState
server_of (policy.Fifo p) now = None
server_of (policy.Rr p) now = None
server_of (policy.Sporadic params) now = Some (new_server params now)
server_of (policy.Strict params) now = Some (new_server_as kind.Strict params now)

abbrev pub with_server : {P : Type 0} → (ServerState → ServerState) → Thread P → Thread P
with_server change th = record th { server = option_map change th.server }

-- the server, where the assigned priority is the high one
abbrev pub high_server : Option ServerState → Option ServerState
high_server None = None
high_server (Some server) = if is_high server then Some server else None

abbrev pub has_high : Option ServerState → Bool
has_high server = is_some (high_server server)

-- a tick at the high priority is charged, and no other
abbrev pub charged : ServerState → ServerState
charged server = if is_high server then charge server else server

-- ---- activation: the activation time becomes now

abbrev pub activates_server : {P : Type 0} → ℕ → Option ServerState → Turn P → Turn P
activates_server t None s = s
activates_server t (Some server) s = s ▷ changes t (with_server (activate s.machine.now)) ▷ tells (event.Activate t server.capacity)

-- A strict server is activated where a run opens, and nowhere else (this project's own).
abbrev pub at_once_as : ServerKind → ServerState → Option ServerState
at_once_as kind.Sporadic server = Some server
at_once_as kind.Strict server = None

abbrev pub at_once : Option ServerState → Option ServerState
at_once None = None
at_once (Some server) = at_once_as server.kind server

-- a thread that has a server is activated
abbrev pub activates : {P : Type 0} → ℕ → Turn P → Turn P
activates t s = activates_server t (at_once (thread_at s.machine t).server) s

abbrev pub activates_if : {P : Type 0} → Bool → ℕ → Turn P → Turn P
activates_if true t s = activates t s
activates_if false t s = s

abbrev pub activates_if_high : {P : Type 0} → ℕ → Turn P → Turn P
activates_if_high t s = activates_server t (at_once (high_server (thread_at s.machine t).server)) s

-- ---- planning: what was consumed becomes a pending replenishment

abbrev pub plans_server : {P : Type 0} → ℕ → Option ServerState → Turn P → Turn P
plans_server t None s = s
plans_server t (Some server) s = s ▷ changes t (with_server plan) ▷ tells (event.Plan t (replenishment server).amount (replenishment server).due)

abbrev pub plans : {P : Type 0} → ℕ → Turn P → Turn P
plans t s = plans_server t (thread_at s.machine t).server s

-- ---- refilling: the oldest pending replenishment is carried out

abbrev pub amount_of : Option Replenish → ℕ
amount_of None = 0
amount_of (Some r) = r.amount

-- whether the refill gives a runnable thread its high priority back
abbrev pub regains_high : ServerState → Bool
regains_high server = not (is_high server) && is_high (refill server)

abbrev pub refills_server : {P : Type 0} → ℕ → Option ServerState → Turn P → Turn P
refills_server t None s = s
refills_server t (Some server) s =
    s ▷ changes t (with_server refill) ▷ tells (event.Refill t (amount_of (oldest_pending server)) (refill server).capacity) ▷ activates_if (regains_high server && can_run s.machine t) t

abbrev pub refills : {P : Type 0} → ℕ → Turn P → Turn P
refills t s = refills_server t (thread_at s.machine t).server s

-- ---- the runs of a strict server: consecutive ticks at its high priority (this project's own)

abbrev pub is_strict : ServerKind → Bool
is_strict kind.Sporadic = false
is_strict kind.Strict = true

abbrev pub has_run : Option ServerState → Bool
has_run None = false
has_run (Some server) = is_strict server.kind && nat_lt 0 server.consumed

abbrev pub plans_if : {P : Type 0} → Bool → ℕ → Turn P → Turn P
plans_if true t s = plans t s
plans_if false t s = s

-- the runs of all of these threads but one are closed
abbrev pub closes_of : {P : Type 0} → Option ℕ → List ℕ → Turn P → Turn P
closes_of to [] s = s
closes_of to (t ∷ ts) s = closes_of to ts (plans_if (not (is to t) && has_run (thread_at s.machine t).server) t s)

-- Close: before the dispatch, the run of a thread that is not the head is closed.
abbrev pub closes : {P : Type 0} → Option ℕ → Turn P → Turn P
closes to s = closes_of to (thread_numbers s.machine) s

-- whether a run may begin: at the high priority, with none that is open
abbrev pub may_open : ServerState → Bool
may_open server = is_strict server.kind && is_high server && server.consumed == 0

-- the server, where a run may begin
abbrev pub opening_server : Option ServerState → Option ServerState
opening_server None = None
opening_server (Some server) = if may_open server then Some server else None

abbrev pub opens_if : {P : Type 0} → Bool → ℕ → ServerState → Turn P → Turn P
opens_if true t server s = activates_server t (Some server) s
opens_if false t server s = s

abbrev pub opens_for : {P : Type 0} → ℕ → Option ServerState → Turn P → Turn P
opens_for t None s = s
opens_for t (Some server) s = opens_if (may_open server) t server s

-- Open: after the dispatch, a run of the head begins, where it has its high priority and no run is open.
abbrev pub opens : {P : Type 0} → Option ℕ → Turn P → Turn P
opens None s = s
opens (Some t) s = opens_for t (thread_at s.machine t).server s
