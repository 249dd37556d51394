-- The priorities of a thread.
use Rattle.std.specs.Prelude.{Bool, List, None, Option, Some, false, flat_map, length, map, max, option_and_then, slice_index_or, suc, true, zero, ℕ, ◌&&◌, if◌then◌else◌}
use Rattle.words_script.specs.declared.policy.Policy.{Policy}
use Rattle.words_script.specs.declared.policy.Policy.TheVariants as policy
use Rattle.words_script.specs.declared.policy.Protocol.{Protocol}
use Rattle.words_script.specs.declared.policy.Protocol.TheVariants as protocol
use Rattle.rules_server.specs.Server.{ServerState, assigned}
use Rattle.rules_machine.specs.Lists.{greatest, is, numbers_where}
use Rattle.rules_machine.specs.State.{Machine, Mutex, Thread, Wait, Waiting, for_mutex, for_mutex_again}
use Rattle.rules_machine.specs.Threads.{waiting_in}

-- The priority that the policy alone gives. A sporadic thread has that of its server, XSH 2.8.4 SCHED_SPORADIC, and
-- so has a strict one; they have the low one while they are not live and have no server (this project's own).
abbrev pub assigned_under : Policy → Option ServerState → ℕ
assigned_under (policy.Fifo p) server = p
assigned_under (policy.Rr p) server = p
assigned_under (policy.Sporadic params) None = params.low
assigned_under (policy.Sporadic params) (Some server) = assigned server
assigned_under (policy.Strict params) None = params.low
assigned_under (policy.Strict params) (Some server) = assigned server

abbrev pub assigned_of : {P : Type 0} → Thread P → ℕ
assigned_of th = assigned_under th.policy th.server

-- The mutex that a wait is for. After its condition wait a thread waits for the mutex and no longer for the condition.
abbrev pub mutex_waited : Wait → Option ℕ
mutex_waited (for_mutex k) = Some k
mutex_waited (for_mutex_again k how) = Some k
mutex_waited wait = None

abbrev pub mutex_awaited_by : {P : Type 0} → Thread P → Option ℕ
mutex_awaited_by th = option_and_then (λ (w : Waiting). mutex_waited w.wait) (waiting_in th.status)

-- what the execution priorities go by: a thread's assigned priority, and the mutex that it waits for
pub record Claim : Type 0 where
  pub assigned : ℕ
  pub awaited : Option ℕ

abbrev pub claim_of : {P : Type 0} → Thread P → Claim
claim_of th = record { assigned = assigned_of th; awaited = mutex_awaited_by th }

abbrev pub claims : {P : Type 0} → List (Thread P) → List Claim
claims threads = map claim_of threads

-- XSH pthread_mutexattr_getprotocol, PTHREAD_PRIO_PROTECT: the owner runs at least at the ceiling
abbrev pub ceiling_under : Protocol → ℕ
ceiling_under protocol.Plain = 0
ceiling_under protocol.Inherit = 0
ceiling_under (protocol.Protect p) = p

abbrev pub is_inherit : Protocol → Bool
is_inherit protocol.Plain = false
is_inherit protocol.Inherit = true
is_inherit (protocol.Protect p) = false

abbrev pub owner_ceiling : ℕ → Mutex → ℕ
owner_ceiling t k = if is k.owner t then ceiling_under k.protocol else 0

-- PTHREAD_PRIO_INHERIT: the owner runs at least at the priority of each thread that waits for the mutex
abbrev pub is_inherit_mutex_of : ℕ → Mutex → Bool
is_inherit_mutex_of t k = is_inherit k.protocol && is k.owner t

module _ (claims : List Claim) (mutexes : List Mutex) where
  abbrev pub assigned_in : ℕ → ℕ
  assigned_in t = (slice_index_or claims t (record { assigned = 0; awaited = None })).assigned

  -- the greatest of the assigned priority and the ceilings of the mutexes that the thread owns
  abbrev pub base_in : ℕ → ℕ
  base_in t = max (assigned_in t) (greatest (map (owner_ceiling t) mutexes))

  -- the threads that wait for an inherit mutex of the thread
  abbrev pub inherit_waiters_in : ℕ → List ℕ
  inherit_waiters_in t = flat_map (λ (k : ℕ). numbers_where (λ (c : Claim). is c.awaited k) claims) (numbers_where (is_inherit_mutex_of t) mutexes)

  -- the greatest base among the threads that lead to the thread in at most so many steps from waiter to owner
  abbrev pub exec_within : ℕ → ℕ → ℕ
  exec_within zero t = base_in t
  exec_within (suc steps) t = max (base_in t) (greatest (map (exec_within steps) (inherit_waiters_in t)))

  -- The execution priority. Inheritance is transitive: it passes from waiter to owner along any chain, and no chain is longer
  -- than there are threads.
  unfoldable pub exec_in : ℕ → ℕ
  exec_in t = exec_within (length claims) t

abbrev pub exec : {P : Type 0} → Machine P → ℕ → ℕ
exec m t = exec_in (claims m.threads) m.mutexes t
