-- What servers, wakes, starts, mutexes and conditions keep small.
use Rattle.std.proofs.Common.{◌+◌, ◌-◌, Bool, None, Option, Some, arith, false, length, refl, suc, true, zero, ℕ, ◌^◌, ◌<◌, ◌≤◌, ◌≡◌}
use Rattle.std.specs.Prelude.{if◌then◌else◌, ◌==◌, nat_lt, not, option_map, option_and_then, ◌&&◌, ◌||◌}
use Rattle.words_numbers.specs.declared.res.Res.{Res}
use Rattle.words_numbers.specs.declared.res.Res.TheVariants as res
use Rattle.words_script.specs.declared.policy.Policy.{Policy}
use Rattle.words_script.specs.declared.policy.Policy.TheVariants as policy
use Rattle.words_trace.specs.declared.event.Event.{Event}
use Rattle.words_trace.specs.declared.event.Event.TheVariants as event
use Rattle.rules_server.specs.declared.ServerKind.{ServerKind}
use Rattle.rules_server.specs.declared.ServerKind.TheVariants as server_kind
use Rattle.rules_server.specs.Server.{ServerState, activate, oldest_pending, plan, refill, replenishment}
use Rattle.rules_machine.specs.declared.thread.CondEnd.{CondEnd}
use Rattle.rules_machine.specs.declared.thread.CondEnd.TheVariants as cond_end
use Rattle.rules_machine.specs.Bodies.{Bodies}
use Rattle.rules_machine.specs.State.{Mutex, Thread, Wait, Waiting, for_condition, for_mutex, for_mutex_again}
use Rattle.rules_machine.specs.Threads.{can_run, mutex_at, thread_at, waiting_of}
use Rattle.rules_machine.specs.Waiters.{Waiter, best_waiter, somebody_waits, waiters}
use Rattle.rules_machine.specs.Turns.{Caller, Turn, changes, changes_mutex, is_late, moves, returns, tells}
use Rattle.rules_machine.specs.CallNames.{name_of}
use Rattle.rules_machine.specs.Servers.{activates_if, activates_server, amount_of, at_once, at_once_as, high_server, plans_server, refills_server, regains_high, server_of, with_server}
use Rattle.rules_machine.specs.Waking.{blocks, call_in, cancelled_value, ending_with, last_result, last_value, started, starts, wakes, wakes_cancelled, wakes_telling, woken}
use Rattle.rules_machine.specs.Mutexes.{closes_cycle, counted_down, freed, is_above_ceiling, locked_again, recursion_limit, trylock_answer, LockAnswer, counted_up, counts, hands_over, is_free, lock_answer, locks, carries_out_lock, must_wait, owned_by, owns, refused, releases, returns_from_wait, taken_by, takes, unlocks, waits_for_mutex, wakes_owner}
use Rattle.rules_machine.specs.Conditions.{broadcasts, contends, reacquires_or_waits, released_mutex, signals, signals_best_times, signals_waiter, waits, waits_on_condition, waits_with_other_mutex}
use Rattle.rules_machine.specs.Semaphores.{blocks_unless_late}
use Rattle.laws_numbers.specs.Numbers.{EventSmall, HasSmall, IsSmall, PolicySmall, TimeSmall, TurnSmall, WaitSmall}
use Rattle.laws_numbers.proofs.Lists.{best_within, served_within}
use Rattle.laws_numbers.proofs.Servers.{activate_small, amount_told, capacity_told, due_told, new_small, plan_small, refill_small, refill_told, refilled_told}
use Rattle.laws_numbers.proofs.Turns.{mutex_small, blocks_small, changes_small, frames_answered_small, high_small, if_small, no_time, now_low, returns_small, tells_small, value_small, within}

pub zero_small : IsSmall 0
zero_small = omega arith

pub cancelled_small : IsSmall cancelled_value
cancelled_small = omega arith

-- the capacity that is told of a server
abbrev pub CapacitySmall : Option ServerState → Type 0
CapacitySmall None = Unit {0}
CapacitySmall (Some s) = IsSmall s.capacity

pub capacity_small : (ticks : ℕ) (o : Option ServerState) → HasSmall ticks o → CapacitySmall o
capacity_small ticks None h = tt
capacity_small ticks (Some s) h = capacity_told ticks s h

at_once_has : (ticks : ℕ) (o : Option ServerState) → HasSmall ticks o → HasSmall ticks (at_once o)
at_once_has ticks None h = tt
at_once_has ticks (Some s) h = by_kind s.kind
  where
    by_kind : (k : ServerKind) → HasSmall ticks (at_once_as k s)
    by_kind server_kind.Sporadic = h
    by_kind server_kind.Strict = tt

pub activated_has : (ticks now : ℕ) (o : Option ServerState) → now ≤ 10 ^ 18 → HasSmall ticks o → HasSmall ticks (option_map (activate now) o)
activated_has ticks now None n h = tt
activated_has ticks now (Some s) n h = activate_small ticks now s n h

pub planned_has : (ticks : ℕ) (o : Option ServerState) → HasSmall ticks o → HasSmall ticks (option_map plan o)
planned_has ticks None h = tt
planned_has ticks (Some s) h = plan_small ticks s h

pub refilled_has : (ticks : ℕ) (o : Option ServerState) → HasSmall ticks o → HasSmall ticks (option_map refill o)
refilled_has ticks None h = tt
refilled_has ticks (Some s) h = refill_small ticks s h

pub server_of_has : (ticks now : ℕ) (p : Policy) → now ≤ 10 ^ 18 → PolicySmall p → HasSmall ticks (server_of p now)
server_of_has ticks now (policy.Fifo p) n h = tt
server_of_has ticks now (policy.Rr p) n h = tt
server_of_has ticks now (policy.Sporadic params) n h = new_small ticks now server_kind.Sporadic params h.0 h.1 n
server_of_has ticks now (policy.Strict params) n h = new_small ticks now server_kind.Strict params h.0 h.1 n

-- how often an owner has locked its mutex
one_lock : 1 ≤ recursion_limit
one_lock = omega arith

no_lock : 0 ≤ recursion_limit
no_lock = omega arith

fewer_locks : (n : ℕ) → n ≤ recursion_limit → n - 1 ≤ recursion_limit
fewer_locks n h = omega arith

more_locks : (n : ℕ) → n ≤ recursion_limit → (n == recursion_limit) ≡ false → n + 1 ≤ recursion_limit
more_locks n h e = grind arith

abbrev pub MayCount : Mutex → LockAnswer → Type 0
MayCount k counts = k.count + 1 ≤ recursion_limit
MayCount k answer = Unit {0}

may_if : (k : Mutex) (b : Bool) (x y : LockAnswer) → MayCount k x → MayCount k y → MayCount k (if b then x else y)
may_if k true x y h j = h
may_if k false x y h j = j

again_may : (k : Mutex) (r : Res) → k.count ≤ recursion_limit → MayCount k (locked_again k r)
again_may k r few = may_if k (not k.is_recursive) _ _ tt (by (k.count == recursion_limit) refl)
  where
    by : (b : Bool) → (k.count == recursion_limit) ≡ b → MayCount k (if b then refused res.Again else counts)
    by true e = tt
    by false e = more_locks k.count few e

module _ {P : Type 0} (count top : ℕ) (low : top ≤ 10 ^ 18) where
  abbrev Small : Turn P → Type 0
  Small s = TurnSmall count top s

  -- ---- servers

  pub served_small : (t : ℕ) (f : ServerState → ServerState) (s : Turn P) → ((ticks : ℕ) (o : Option ServerState) → HasSmall ticks o → HasSmall ticks (option_map f o)) → Small s → Small (changes t (with_server f) s)
  served_small t f s new h = changes_small count top low t (with_server f) s (λ th. record {
    status = th.status;
    policy = th.policy;
    server = new (thread_at s.machine t).ticks (thread_at s.machine t).server th.server;
    frames = th.frames;
    exit_value = th.exit_value;
    joiner = th.joiner;
  }) h

  pub activates_server_small : (t : ℕ) (o : Option ServerState) (s : Turn P) → t < count → CapacitySmall o → Small s → Small (activates_server t o s)
  activates_server_small t None s lt c h = h
  activates_server_small t (Some server) s lt c h =
      tells_small count top low (event.Activate t server.capacity) (changes t (with_server (activate s.machine.now)) s) (lt, c)
      (served_small t (activate s.machine.now) s (λ ticks o k. activated_has ticks s.machine.now o (now_low count top low s h) k) h)

  pub activates_small : (t : ℕ) (s : Turn P) → t < count → Small s → Small (activates_server t (at_once (thread_at s.machine t).server) s)
  activates_small t s lt h =
      let o = (thread_at s.machine t).server in
      let ticks = (thread_at s.machine t).ticks in
      activates_server_small t (at_once o) s lt (capacity_small ticks (at_once o) (at_once_has ticks o (h.of_threads t).server)) h

  pub activates_if_small : (b : Bool) (t : ℕ) (s : Turn P) → t < count → Small s → Small (activates_if b t s)
  activates_if_small true t s lt h = activates_small t s lt h
  activates_if_small false t s lt h = h

  pub plans_small : (t : ℕ) (o : Option ServerState) (s : Turn P) → t < count → HasSmall (thread_at s.machine t).ticks o → Small s → Small (plans_server t o s)
  plans_small t None s lt k h = h
  plans_small t (Some server) s lt k h =
      let ticks = (thread_at s.machine t).ticks in
      tells_small count top low (event.Plan t (replenishment server).amount (replenishment server).due) (changes t (with_server plan) s) (lt, amount_told ticks server k, due_told ticks server k)
      (served_small t plan s planned_has h)

  pub refills_small : (t : ℕ) (s : Turn P) → Small s → Small (refills_server t (thread_at s.machine t).server s)
  refills_small t s h = by (thread_at s.machine t).server refl (h.of_threads t).server
    where
      by : (o : Option ServerState) → (thread_at s.machine t).server ≡ o → HasSmall (thread_at s.machine t).ticks o → Small (refills_server t o s)
      by None e k = h
      by (Some server) e k =
          let ticks = (thread_at s.machine t).ticks in
          let lt : t < count = within count top low t s (served_within s.machine.threads t server (λ (th : Thread P). th.server) refl e) h in
          let told = tells (event.Refill t (amount_of (oldest_pending server)) (refill server).capacity) (changes t (with_server refill) s) in
          activates_if_small (regains_high server && can_run s.machine t) t told lt
          (tells_small count top low (event.Refill t (amount_of (oldest_pending server)) (refill server).capacity) (changes t (with_server refill) s) (lt, refill_told ticks server k, refilled_told ticks server k)
          (served_small t refill s refilled_has h))

  -- ---- waking and starting

  pub wakes_telling_small : (e : Event) (t : ℕ) (r : Res) (value : ℕ) (s : Turn P) → EventSmall count e → t < count → IsSmall value → Small s → Small (wakes_telling e t r value s)
  wakes_telling_small e t r value s told lt v h =
      let woke = moves t (changes t (woken r value) s) in
      let x = tells e woke in
      let after : Small x = tells_small count top low e woke told (changes_small count top low t (woken r value) s (λ th. record {
        status = tt;
        policy = th.policy;
        server = th.server;
        frames = frames_answered_small r value (thread_at s.machine t).frames v th.frames;
        exit_value = th.exit_value;
        joiner = th.joiner;
      }) h) in
      let ticks = (thread_at x.machine t).ticks in
      let server = (thread_at x.machine t).server in
      activates_server_small t (at_once (high_server server)) x lt (capacity_small ticks (at_once (high_server server)) (at_once_has ticks (high_server server) (high_small ticks server (after.of_threads t).server))) after

  pub wakes_small : (t : ℕ) (r : Res) (value : ℕ) (s : Turn P) → t < count → IsSmall value → Small s → Small (wakes t r value s)
  wakes_small t r value s lt v h = wakes_telling_small (event.Return t (name_of (call_in (waiting_of s.machine t))) r value) t r value s (lt, v) lt v h

  pub ending_small : (t value : ℕ) (s : Turn P) → IsSmall value → Small s → Small (changes t (ending_with value) s)
  ending_small t value s v h =
      changes_small count top low t (ending_with value) s (λ th. record { status = th.status; policy = th.policy; server = th.server; frames = th.frames; exit_value = v; joiner = th.joiner }) h

  pub wakes_cancelled_small : (t : ℕ) (s : Turn P) → t < count → Small s → Small (wakes_cancelled t s)
  wakes_cancelled_small t s lt h =
      let result = last_result t s.machine in
      let value = last_value t s.machine in
      ending_small t cancelled_value (wakes_telling (event.Cancel t) t result value s) cancelled_small
      (wakes_telling_small (event.Cancel t) t result value s lt lt (value_small (thread_at s.machine t).frames (h.of_threads t).frames) h)

  pub starts_small : (bodies : Bodies P) (t mask : ℕ) (s : Turn P) → t < count → Small s → Small (starts bodies t mask s)
  starts_small bodies t mask s lt h =
      let f = started bodies t mask s.machine.now in
      let begun = moves t (changes t f s) in
      activates_small t (tells (event.Start t) begun) lt (tells_small count top low (event.Start t) begun lt (changes_small count top low t f s (λ th. record {
        status = tt;
        policy = th.policy;
        server = server_of_has (thread_at s.machine t).ticks s.machine.now (thread_at s.machine t).policy (now_low count top low s h) th.policy;
        frames = (record { register = omega arith; value = zero_small; left = zero_small }, tt);
        exit_value = th.exit_value;
        joiner = th.joiner;
      }) h))

  -- ---- mutexes

  -- a lock is counted once more where it may be
  lock_may : (t k : ℕ) (due : Option ℕ) (s : Turn P) → (mutex_at s.machine k).count ≤ recursion_limit → MayCount (mutex_at s.machine k) (lock_answer s.machine t k due)
  lock_may t k due s few =
      let x = mutex_at s.machine k in
      may_if x (is_above_ceiling (thread_at s.machine t) x.protocol) _ _ tt
      (may_if x (owns s.machine t k) _ _ (again_may x res.Deadlk few) (may_if x (is_free s.machine k) _ _ tt (may_if x (closes_cycle s.machine k t) _ _ tt (may_if x (is_late due s.machine) _ _ tt tt))))

  pub trylock_may : (t k : ℕ) (s : Turn P) → (mutex_at s.machine k).count ≤ recursion_limit → MayCount (mutex_at s.machine k) (trylock_answer s.machine t k)
  trylock_may t k s few =
      let x = mutex_at s.machine k in
      may_if x (is_above_ceiling (thread_at s.machine t) x.protocol) _ _ tt (may_if x (owns s.machine t k) _ _ (again_may x res.Busy few) (may_if x (is_free s.machine k) _ _ tt tt))

  taken_small : (t k : ℕ) (s : Turn P) → Small s → Small (changes_mutex k (taken_by t) s)
  taken_small t k s h = mutex_small count top low k (taken_by t) s one_lock h

  pub locks_on_small : (a : LockAnswer) (by : Caller) (k : ℕ) (due : Option ℕ) (s : Turn P) → by.thread < count → TimeSmall s.machine.clock by.call due → MayCount (mutex_at s.machine k) a → Small s → Small (carries_out_lock a by k due s)
  locks_on_small (refused r) by k due s lt d may h = returns_small count top low by r 0 s lt zero_small h
  locks_on_small counts by k due s lt d may h = returns_small count top low by res.Zero 0 (changes_mutex k counted_up s) lt zero_small (mutex_small count top low k counted_up s may h)
  locks_on_small takes by k due s lt d may h = returns_small count top low by res.Zero 0 (changes_mutex k (taken_by by.thread) s) lt zero_small (taken_small by.thread k s h)
  locks_on_small must_wait by k due s lt d may h = blocks_small count top low by (for_mutex k) due s tt d h

  pub locks_small : (by : Caller) (k : ℕ) (due : Option ℕ) (s : Turn P) → by.thread < count → TimeSmall s.machine.clock by.call due → Small s → Small (locks by k due s)
  locks_small by k due s lt d h = locks_on_small (lock_answer s.machine by.thread k due) by k due s lt d (lock_may by.thread k due s (h.of_mutexes k)) h

  returns_from_wait_small : (how : CondEnd) (t : ℕ) (s : Turn P) → t < count → Small s → Small (returns_from_wait how t s)
  returns_from_wait_small cond_end.Signalled t s lt h = wakes_small t res.Zero 0 s lt zero_small h
  returns_from_wait_small cond_end.Timedout t s lt h = wakes_small t res.Timedout 0 s lt zero_small h
  returns_from_wait_small cond_end.Cancelled t s lt h = wakes_cancelled_small t s lt h

  wakes_owner_small : (wait : Wait) (t : ℕ) (s : Turn P) → t < count → Small s → Small (wakes_owner wait t s)
  wakes_owner_small (for_mutex_again k how) t s lt h = returns_from_wait_small how t s lt h
  wakes_owner_small _ t s lt h = wakes_small t res.Zero 0 s lt zero_small h

  -- the best waiter is there
  pub best_there : (passes : Wait → Bool) (w : Waiter) (s : Turn P) → best_waiter s.machine passes ≡ Some w → Small s → w.thread < count
  best_there passes w s e h = within count top low w.thread s (best_within s.machine passes w e).within h

  pub releases_small : (k : ℕ) (s : Turn P) → Small s → Small (releases k s)
  releases_small k s h = to_best (best_waiter s.machine (waits_for_mutex k)) refl
    where
      to_best : (best : Option Waiter) → best_waiter s.machine (waits_for_mutex k) ≡ best → Small (hands_over best k s)
      to_best None e = mutex_small count top low k freed s no_lock h
      to_best (Some w) e = wakes_owner_small w.waiting.wait w.thread (changes_mutex k (taken_by w.thread) s) (best_there (waits_for_mutex k) w s e h) (taken_small w.thread k s h)

  pub unlocks_small : (by : Caller) (k : ℕ) (s : Turn P) → by.thread < count → Small s → Small (unlocks by k s)
  unlocks_small by k s lt h =
      let back = returns_small count top low by res.Zero 0 s lt zero_small h in
      if_small count top low (not (owns s.machine by.thread k)) _ _ (returns_small count top low by res.Perm 0 s lt zero_small h)
      (if_small count top low (nat_lt 1 (mutex_at s.machine k).count) _ _ (mutex_small count top low k counted_down (returns by res.Zero 0 s) (fewer_locks (mutex_at s.machine k).count (h.of_mutexes k)) back) (releases_small k (returns by res.Zero 0 s) back))

  -- ---- conditions

  contends_for_small : (o : Option ℕ) (t : ℕ) (how : CondEnd) (s : Turn P) → t < count → Small s → Small (reacquires_or_waits o t how s)
  contends_for_small None t how s lt h = h
  contends_for_small (Some k) t how s lt h =
      if_small count top low (is_free s.machine k) _ _ (returns_from_wait_small how t (changes_mutex k (taken_by t) s) lt (taken_small t k s h))
      (blocks_small count top low (record { thread = t; call = call_in (waiting_of s.machine t) }) (for_mutex_again k how) None s tt (no_time s.machine.clock (call_in (waiting_of s.machine t))) h)

  pub contends_small : (t : ℕ) (how : CondEnd) (s : Turn P) → t < count → Small s → Small (contends t how s)
  contends_small t how s lt h = contends_for_small (option_and_then (λ (w : Waiting). released_mutex w.wait) (waiting_of s.machine t)) t how s lt h

  signals_best_small : (c : ℕ) (s : Turn P) → Small s → Small (signals_waiter (best_waiter s.machine (waits_on_condition c)) s)
  signals_best_small c s h = to_best (best_waiter s.machine (waits_on_condition c)) refl
    where
      to_best : (best : Option Waiter) → best_waiter s.machine (waits_on_condition c) ≡ best → Small (signals_waiter best s)
      to_best None e = h
      to_best (Some w) e = contends_small w.thread cond_end.Signalled s (best_there (waits_on_condition c) w s e h) h

  pub signals_best_of_small : (n c : ℕ) (s : Turn P) → Small s → Small (signals_best_times n c s)
  signals_best_of_small zero c s h = h
  signals_best_of_small (suc n) c s h = signals_best_small c (signals_best_times n c s) (signals_best_of_small n c s h)

  pub signals_small : (by : Caller) (c : ℕ) (s : Turn P) → by.thread < count → Small s → Small (signals by c s)
  signals_small by c s lt h = signals_best_small c (returns by res.Zero 0 s) (returns_small count top low by res.Zero 0 s lt zero_small h)

  pub broadcasts_small : (by : Caller) (c : ℕ) (s : Turn P) → by.thread < count → Small s → Small (broadcasts by c s)
  broadcasts_small by c s lt h = signals_best_of_small (length (waiters s.machine (waits_on_condition c))) c (returns by res.Zero 0 s) (returns_small count top low by res.Zero 0 s lt zero_small h)

  pub waits_small : (by : Caller) (c k : ℕ) (due : Option ℕ) (s : Turn P) → by.thread < count → TimeSmall s.machine.clock by.call due → Small s → Small (waits by c k due s)
  waits_small by c k due s lt d h =
      if_small count top low (not (owns s.machine by.thread k)) _ _ (returns_small count top low by res.Perm 0 s lt zero_small h)
      (if_small count top low (nat_lt 1 (mutex_at s.machine k).count || somebody_waits s.machine (waits_with_other_mutex c k)) _ _ (returns_small count top low by res.Inval 0 s lt zero_small h)
      (if_small count top low (nat_lt 1 (length (owned_by s.machine by.thread))) _ _ (returns_small count top low by res.Deadlk 0 s lt zero_small h)
      (releases_small k (blocks by (for_condition c k) due s) (blocks_small count top low by (for_condition c k) due s tt d h))))

  pub blocks_unless_late_small : (by : Caller) (wait : Wait) (due : Option ℕ) (s : Turn P) → by.thread < count → WaitSmall wait → TimeSmall s.machine.clock by.call due → Small s → Small (blocks_unless_late by wait due s)
  blocks_unless_late_small by wait due s lt w d h =
      if_small count top low (is_late due s.machine) _ _ (returns_small count top low by res.Timedout 0 s lt zero_small h) (blocks_small count top low by wait due s w d h)
