-- The chain of owners above a thread, and the equations of the execution priorities.
use Rattle.std.specs.Prelude.{Bool, false, true, ◌||◌, ◌&&◌, List, None, Option, Some, is_none, length, map, max, option_and_then, slice_index_or, suc, zero, ℕ, ◌≡◌, ◌≢◌, ◌<◌, ◌≤◌, if◌then◌else◌}
use Rattle.rules_machine.specs.Lists.{changed_at, greatest, is, numbers_where}
use Rattle.words_script.specs.declared.policy.Protocol.{Protocol}
use Rattle.words_script.specs.declared.policy.Protocol.TheVariants as protocol
use Rattle.rules_machine.specs.Mutexes.{freed, taken_by}
use Rattle.rules_machine.specs.State.{Mutex}
use Rattle.rules_machine.specs.Threads.{mutex_in, no_mutex}
use Rattle.rules_machine.specs.WellFormed.{IsPriority}
use Rattle.rules_machine.specs.Priorities.{Claim, assigned_in, base_in, exec_in, inherit_waiters_in, is_inherit_mutex_of, owner_ceiling}

abbrev pub no_claim : Claim
no_claim = record { assigned = 0; awaited = None }

-- the priority of a thread in a list of priorities
abbrev pub prio_in : List ℕ → ℕ → ℕ
prio_in prios t = slice_index_or prios t 0

pub record ArePriorities (prios : List ℕ) : Type 0 where
  pub each : (t : ℕ) → t < length prios → IsPriority (prio_in prios t)

-- the threads that wait for a mutex
abbrev pub waiters_in : List Claim → ℕ → List ℕ
waiters_in claims k = numbers_where (λ (c : Claim). is c.awaited k) claims

-- what a thread gets through one mutex: its ceiling, or the priorities of those that wait for it
abbrev pub through_in : List Claim → (ℕ → ℕ) → ℕ → ℕ → Mutex → ℕ
through_in claims e t k m = max (owner_ceiling t m) (if is_inherit_mutex_of t m then greatest (map e (waiters_in claims k)) else 0)

-- the mutex that a thread waits for
abbrev pub awaited_in : List Claim → ℕ → Option ℕ
awaited_in claims t = (slice_index_or claims t no_claim).awaited

module _ (claims : List Claim) (mutexes : List Mutex) where
  -- the owner of the mutex that a thread waits for
  abbrev pub next_in : ℕ → Option ℕ
  next_in t = option_and_then (λ (k : ℕ). (mutex_in mutexes k).owner) (awaited_in claims t)

  -- the thread that stands so many steps above, from waiter to owner
  abbrev pub above_in : ℕ → ℕ → Option ℕ
  above_in zero t = Some t
  above_in (suc steps) t = option_and_then next_in (above_in steps t)

  -- whether owners and their mutex waits lead to the thread in at most so many steps from an owner
  abbrev pub leads_from : ℕ → Option ℕ → ℕ → Bool
  leads_from zero owner t = false
  leads_from (suc steps) owner t = is owner t || leads_from steps (option_and_then next_in owner) t

  -- whether to wait for the mutex would close a cycle
  abbrev pub closes_cycle_in : ℕ → ℕ → Bool
  closes_cycle_in t k = leads_from (length claims) (mutex_in mutexes k).owner t

  -- each owner is a thread
  pub record OwnersAreThreads : Type 0 where
    pub each : (k t : ℕ) → (mutex_in mutexes k).owner ≡ Some t → t < length claims

  -- owners and their mutex waits never lead back to a thread
  pub record NoCycle : Type 0 where
    pub each : (t steps : ℕ) → above_in (suc steps) t ≢ Some t

  -- each chain of owners ends: it is no longer than there are threads
  pub record ChainsEnd : Type 0 where
    pub each : (t : ℕ) → t < length claims → above_in (length claims) t ≡ None

  -- what the equation of a thread asks for: the greatest of its base and of the priorities of those that lend to it
  abbrev pub asked_in : (ℕ → ℕ) → ℕ → ℕ
  asked_in e t = max (base_in claims mutexes t) (greatest (map e (inherit_waiters_in claims mutexes t)))

  -- the equations of the execution priorities hold
  pub record Solves (e : ℕ → ℕ) : Type 0 where
    pub each : (t : ℕ) → t < length claims → e t ≡ asked_in e t

  -- the equations hold, but maybe at one thread
  pub record SolvesBut (p : ℕ) (e : ℕ → ℕ) : Type 0 where
    pub others : (t : ℕ) → t < length claims → t ≢ p → e t ≡ asked_in e t

-- the claims of threads and the mutexes
pub record Links : Type 0 where
  pub claims : List Claim
  pub mutexes : List Mutex

-- the execution priority of a thread
abbrev pub exec_of : Links → ℕ → ℕ
exec_of s t = exec_in s.claims s.mutexes t

abbrev pub with_claim : ℕ → (Claim → Claim) → Links → Links
with_claim t change s = record s { claims = changed_at no_claim t change s.claims }

abbrev pub assigned_to : ℕ → Claim → Claim
assigned_to p c = record c { assigned = p }

abbrev pub waiting_for : Option ℕ → Claim → Claim
waiting_for k c = record c { awaited = k }

abbrev pub links_of : List Claim → List Mutex → Links
links_of claims mutexes = record { claims = claims; mutexes = mutexes }

-- a chain as it stands between two changes
pub record Settled (s : Links) (exec : List ℕ) : Type 0 where
  pub each : length exec ≡ length s.claims
  pub owners : OwnersAreThreads s.claims s.mutexes
  pub free : NoCycle s.claims s.mutexes
  pub right : Solves s.claims s.mutexes (prio_in exec)
  pub fits : ArePriorities exec

abbrev pub mutex_at : Links → ℕ → Mutex
mutex_at s k = mutex_in s.mutexes k

abbrev pub assigned_at : Links → ℕ → ℕ
assigned_at s t = assigned_in s.claims s.mutexes t

abbrev pub with_mutex : ℕ → (Mutex → Mutex) → Links → Links
with_mutex k change s = record s { mutexes = changed_at no_mutex k change s.mutexes }

-- whether a mutex of the protocol raises no owner, whatever the priorities are: it has no ceiling, and lends nothing where the first of its
-- waiters is this one
abbrev pub raises_nobody : Protocol → Option ℕ → Bool
raises_nobody protocol.Plain first = true
raises_nobody protocol.Inherit first = is_none first
raises_nobody (protocol.Protect p) first = false

-- a free mutex that raises nobody who takes it
abbrev pub is_plainly_free : Mutex → Option ℕ → Bool
is_plainly_free k first = is_none k.owner && raises_nobody k.protocol first

-- a mutex that a thread takes or leaves as it is
abbrev pub taken_if : Bool → ℕ → Mutex → Mutex
taken_if taken t k = if taken then taken_by t k else k

-- a mutex that is given up or stays as it is
abbrev pub freed_if : Bool → Mutex → Mutex
freed_if given k = if given then freed k else k

-- counted so often, with the same owner
abbrev pub counted : ℕ → Mutex → Mutex
counted n k = record k { count = n }

-- each thread keeps its execution priority
pub record SameExec (old new : Links) : Type 0 where
  pub lengths : length new.claims ≡ length old.claims
  pub each : (t : ℕ) → t < length old.claims → exec_of new t ≡ exec_of old t
