-- What is still to come at an instant, counted, and that no effect adds to it.
use Rattle.std.proofs.Common.{Bool, List, None, Option, Some, [], ap, arith, false, length, refl, suc, true, zero, ℕ, ◌+◌, ◌≤◌, ◌∷◌, ◌≡◌}
use Rattle.std.specs.Prelude.{is_none, option_and_then, option_map, slice_index_or, ◌&&◌, if◌then◌else◌}
use mathlib.Core.Path.{ap₂, ◌∙◌}
use Rattle.words_numbers.specs.declared.res.Res.{Res}
use Rattle.words_numbers.specs.declared.res.Res.TheVariants as res
use Rattle.words_script.specs.declared.policy.Policy.{Policy}
use Rattle.words_script.specs.declared.policy.Policy.TheVariants as policy
use Rattle.words_trace.specs.declared.event.Event.{Event}
use Rattle.words_trace.specs.declared.event.Event.TheVariants as event
use Rattle.rules_server.specs.declared.Replenish.{Replenish}
use Rattle.rules_server.specs.Server.{ServerState, activate, next_due, oldest_pending, refill}
use Rattle.rules_machine.specs.declared.thread.CondEnd.{CondEnd}
use Rattle.rules_machine.specs.declared.thread.CondEnd.TheVariants as cond_end
use Rattle.rules_machine.specs.Lists.{changed_at}
use Rattle.rules_machine.specs.Bodies.{Bodies}
use Rattle.rules_machine.specs.State.{Machine, SignalRecord, Thread, Timer, Wait, Waiting, for_mutex_again}
use Rattle.rules_machine.specs.Threads.{action_of, can_run, mutex_at, no_thread, no_timer, thread_at, thread_in, timer_at, waiting_in, waiting_of}
use Rattle.rules_machine.specs.Waiters.{Waiter}
use Rattle.rules_machine.specs.Turns.{Caller, Turn, changes, changes_mutex, changes_timer, moves, tells, ◌▷◌}
use Rattle.rules_machine.specs.CallNames.{name_of}
use Rattle.rules_machine.specs.Servers.{activates_if, activates_server, amount_of, at_once, high_server, refills_server, regains_high, server_of, with_server}
use Rattle.rules_machine.specs.Waking.{blocks, call_in, cancelled_value, ending_with, last_result, last_value, put_to_wait, started, starts, wakes, wakes_cancelled, wakes_telling, woken}
use Rattle.rules_machine.specs.Mutexes.{returns_from_wait, taken_by}
use Rattle.rules_machine.specs.Conditions.{reacquires_or_waits}
use Rattle.rules_machine.specs.Signals.{acceptor, becomes_pending, delivers, generates, is_accepted_or_pends, is_ignore, tells_overrun, with_overrun_told}
use Rattle.rules_machine.specs.Timers.{armed_again, expires, is_pending_from, next_expiry, overrun_once_more, record_of_timer}
use Rattle.rules_machine.specs.DueItems.{has_come, pending_count, start_in}
use Rattle.rules_machine.proofs.Kept.{Kept}
use Rattle.rules_machine.proofs.KeptByCalls.{generates_kept}
use Rattle.rules_machine.proofs.Reading.{changed-keeps}

-- ---- the count

abbrev pub count : Option ℕ → ℕ
count None = 0
count (Some n) = 1

abbrev pub bit : Bool → ℕ
bit true = 1
bit false = 0

-- a start and a timeout
abbrev pub owes : {P : Type 0} → Thread P → ℕ
owes th = count (start_in th.status) + count (option_and_then (λ (w : Waiting). w.due) (waiting_in th.status))

abbrev pub load : {P : Type 0} → Thread P → ℕ
load th = pending_count th.server + owes th

abbrev pub loads : {P : Type 0} → List (Thread P) → ℕ
loads [] = 0
loads (th ∷ ths) = load th + loads ths

-- an expiry that is due
abbrev pub alarm : ℕ → Timer → ℕ
alarm now k = bit (has_come k.due now)

abbrev pub alarms : ℕ → List Timer → ℕ
alarms now [] = 0
alarms now (k ∷ ks) = alarm now k + alarms now ks

abbrev pub coming : {P : Type 0} → Machine P → ℕ
coming m = loads m.threads + alarms m.now m.timers

-- ---- a change of one member

pub changed_loads : {P : Type 0} (t : ℕ) (f : Thread P → Thread P) (g : Thread P → ℕ) → ((th : Thread P) → load (f th) + g th ≤ load th) → (ths : List (Thread P)) →
    loads (changed_at no_thread t f ths) + g (thread_in ths t) ≤ loads ths
changed_loads t f g h [] = omega (arith, h no_thread)
changed_loads zero f g h (th ∷ ths) = omega (arith, h th)
changed_loads (suc t) f g h (th ∷ ths) = omega (arith, changed_loads t f g h ths)

pub changed_alarms : (now k : ℕ) (f : Timer → Timer) (g : Timer → ℕ) → ((x : Timer) → alarm now (f x) + g x ≤ alarm now x) → (ks : List Timer) →
    alarms now (changed_at no_timer k f ks) + g (slice_index_or ks k no_timer) ≤ alarms now ks
changed_alarms now k f g h [] = omega (arith, h no_timer)
changed_alarms now zero f g h (x ∷ ks) = omega (arith, h x)
changed_alarms now (suc k) f g h (x ∷ ks) = omega (arith, changed_alarms now k f g h ks)

-- ---- servers

activate_pending : (now : ℕ) (o : Option ServerState) → pending_count (option_map (activate now) o) ≡ pending_count o
activate_pending now None = refl
activate_pending now (Some s) = refl

new_pending : (p : Policy) (now : ℕ) → pending_count (server_of p now) ≡ 0
new_pending (policy.Fifo p) now = refl
new_pending (policy.Rr p) now = refl
new_pending (policy.Sporadic params) now = refl
new_pending (policy.Strict params) now = refl

abbrev pub refillable : Option ServerState → ℕ
refillable o = count (option_and_then next_due o)

refill_pending : (o : Option ServerState) → pending_count (option_map refill o) + refillable o ≤ pending_count o
refill_pending None = omega arith
refill_pending (Some s) = by_pending s s.pending refl
  where
    by_pending : (s : ServerState) (rs : List Replenish) → s.pending ≡ rs → length (refill s).pending + count (next_due s) ≤ length s.pending
    by_pending s [] e = rw e (omega arith)
    by_pending s (r ∷ rs) e = rw e (omega arith)

-- ---- timers

next_is_no_alarm : (now n : ℕ) → bit (has_come (next_expiry now n) now) ≡ 0
next_is_no_alarm now zero = refl
next_is_no_alarm now (suc n) = grind arith

module _ {P : Type 0} where
  if_falls : (b : Bool) (x y : Turn P) (n m : ℕ) → coming x.machine + n ≤ m → coming y.machine + n ≤ m → coming (if b then x else y).machine + n ≤ m
  if_falls true x y n m h k = h
  if_falls false x y n m h k = k

  activates_falls : (t : ℕ) (o : Option ServerState) (s : Turn P) → coming (activates_server t o s).machine ≤ coming s.machine
  activates_falls t None s = omega arith
  activates_falls t (Some server) s =
      omega (arith, changed_loads t (with_server (activate s.machine.now)) (λ th. 0) (λ th. omega (arith, activate_pending s.machine.now th.server)) s.machine.threads)

  activates_if_falls : (b : Bool) (t : ℕ) (s : Turn P) → coming (activates_if b t s).machine ≤ coming s.machine
  activates_if_falls true t s = activates_falls t (at_once (thread_at s.machine t).server) s
  activates_if_falls false t s = omega arith

  -- ---- a thread wakes or contends: its timeout is gone

  wakes_telling_falls : (e : Event) (t : ℕ) (r : Res) (value : ℕ) (s : Turn P) → coming (wakes_telling e t r value s).machine + owes (thread_at s.machine t) ≤ coming s.machine
  wakes_telling_falls e t r value s =
      let up = tells e (moves t (changes t (woken r value) s)) in
      omega (arith, activates_falls t (at_once (high_server (thread_at up.machine t).server)) up, changed_loads t (woken r value) owes (λ th. omega arith) s.machine.threads)

  pub wakes_falls : (t : ℕ) (r : Res) (value : ℕ) (s : Turn P) → coming (wakes t r value s).machine + owes (thread_at s.machine t) ≤ coming s.machine
  wakes_falls t r value s = wakes_telling_falls (event.Return t (name_of (call_in (waiting_of s.machine t))) r value) t r value s

  cancelled_falls : (t : ℕ) (s : Turn P) → coming (wakes_cancelled t s).machine + owes (thread_at s.machine t) ≤ coming s.machine
  cancelled_falls t s =
      let up = wakes_telling (event.Cancel t) t (last_result t s.machine) (last_value t s.machine) s in
      omega (arith, wakes_telling_falls (event.Cancel t) t (last_result t s.machine) (last_value t s.machine) s, changed_loads t (ending_with cancelled_value) (λ th. 0) (λ th. omega arith) up.machine.threads)

  returns_from_wait_falls : (how : CondEnd) (t : ℕ) (s : Turn P) → coming (returns_from_wait how t s).machine + owes (thread_at s.machine t) ≤ coming s.machine
  returns_from_wait_falls cond_end.Signalled t s = wakes_falls t res.Zero 0 s
  returns_from_wait_falls cond_end.Timedout t s = wakes_falls t res.Timedout 0 s
  returns_from_wait_falls cond_end.Cancelled t s = cancelled_falls t s

  blocks_falls : (by : Caller) (wait : Wait) (s : Turn P) → coming (blocks by wait None s).machine + owes (thread_at s.machine by.thread) ≤ coming s.machine
  blocks_falls by wait s =
      omega (arith, changed_loads by.thread (put_to_wait (record { wait = wait; serial = s.machine.next_serial; due = None; call = by.call })) owes (λ th. omega arith) s.machine.threads)

  pub contends_falls : (k t : ℕ) (how : CondEnd) (s : Turn P) → coming (reacquires_or_waits (Some k) t how s).machine + owes (thread_at s.machine t) ≤ coming s.machine
  contends_falls k t how s =
      let by : Caller = record { thread = t; call = call_in (waiting_of s.machine t) } in
      if_falls (is_none (mutex_at s.machine k).owner) (s ▷ changes_mutex k (taken_by t) ▷ returns_from_wait how t) (blocks by (for_mutex_again k how) None s)
      (owes (thread_at s.machine t)) (coming s.machine) (returns_from_wait_falls how t (changes_mutex k (taken_by t) s)) (blocks_falls by (for_mutex_again k how) s)

  -- ---- a thread starts

  pub starts_falls : (bodies : Bodies P) (t mask : ℕ) (s : Turn P) → coming (starts bodies t mask s).machine + owes (thread_at s.machine t) ≤ coming s.machine
  starts_falls bodies t mask s =
      let begun = tells (event.Start t) (moves t (changes t (started bodies t mask s.machine.now) s)) in
      omega (
        arith,
        activates_falls t (at_once (thread_at begun.machine t).server) begun,
        changed_loads t (started bodies t mask s.machine.now) owes (λ th. omega (arith, new_pending th.policy s.machine.now)) s.machine.threads,
      )

  -- ---- a refill: a pending replenishment is gone

  pub refills_falls : (t : ℕ) (o : Option ServerState) (s : Turn P) → (thread_at s.machine t).server ≡ o → coming (refills_server t o s).machine + refillable o ≤ coming s.machine
  refills_falls t None s e = omega arith
  refills_falls t (Some server) s e =
      let fed = tells (event.Refill t (amount_of (oldest_pending server)) (refill server).capacity) (changes t (with_server refill) s) in
      let here : refillable (thread_at s.machine t).server ≡ refillable (Some server) = ap refillable e in
      omega (
        arith,
        here,
        activates_if_falls (regains_high server && can_run s.machine t) t fed,
        changed_loads t (with_server refill) (λ th. refillable th.server) (λ th. omega (arith, refill_pending th.server)) s.machine.threads,
      )

  -- ---- a signal is generated

  pub overrun_falls : (k : Option ℕ) (s : Turn P) → coming (tells_overrun k s).machine ≤ coming s.machine
  overrun_falls None s = omega arith
  overrun_falls (Some k) s = omega (arith, changed_alarms s.machine.now k with_overrun_told (λ x. 0) (λ x. omega arith) s.machine.timers)

  generates_for_falls : (w : Option Waiter) (r : SignalRecord) (s : Turn P) → coming (is_accepted_or_pends w r s).machine ≤ coming s.machine
  generates_for_falls (Some w) r s =
      omega (arith, wakes_falls w.thread res.Zero r.signal (delivers w.thread r s), overrun_falls r.timer (tells (event.Deliver w.thread r.signal r.code r.value) s))
  generates_for_falls None r s = omega (arith, if_falls (is_ignore (action_of s.machine r.signal)) s (becomes_pending r s) 0 (coming s.machine) (omega arith) (omega arith))

  -- ---- a timer expires: it is not due again at this instant

  overrun_due : (o : Option ℕ) (k : ℕ) (s : Turn P) → (timer_at (tells_overrun o s).machine k).due ≡ (timer_at s.machine k).due
  overrun_due None k s = refl
  overrun_due (Some j) k s = changed-keeps no_timer j k with_overrun_told (λ (x : Timer). x.due) (λ x. refl) s.machine.timers

  activates_timers : (t : ℕ) (o : Option ServerState) (s : Turn P) → (activates_server t o s).machine.timers ≡ s.machine.timers
  activates_timers t None s = refl
  activates_timers t (Some server) s = refl

  wakes_timers : (t : ℕ) (r : Res) (value : ℕ) (s : Turn P) → (wakes t r value s).machine.timers ≡ s.machine.timers
  wakes_timers t r value s =
      let up = tells (event.Return t (name_of (call_in (waiting_of s.machine t))) r value) (moves t (changes t (woken r value) s)) in
      activates_timers t (at_once (high_server (thread_at up.machine t).server)) up

  if_due : (b : Bool) (x y : Turn P) (k : ℕ) (d : Option ℕ) → (timer_at x.machine k).due ≡ d → (timer_at y.machine k).due ≡ d → (timer_at (if b then x else y).machine k).due ≡ d
  if_due true x y k d h g = h
  if_due false x y k d h g = g

  generates_for_due : (w : Option Waiter) (r : SignalRecord) (k : ℕ) (s : Turn P) → (timer_at (is_accepted_or_pends w r s).machine k).due ≡ (timer_at s.machine k).due
  generates_for_due (Some w) r k s =
      ap (λ (ks : List Timer). (slice_index_or ks k no_timer).due) (wakes_timers w.thread res.Zero r.signal (delivers w.thread r s))
      ∙ overrun_due r.timer k (tells (event.Deliver w.thread r.signal r.code r.value) s)
  generates_for_due None r k s = if_due (is_ignore (action_of s.machine r.signal)) s (becomes_pending r s) k (timer_at s.machine k).due refl refl

  pub expires_falls : (k : ℕ) (s : Turn P) → coming (expires k s).machine + alarm s.machine.now (timer_at s.machine k) ≤ coming s.machine
  expires_falls k s =
      let r = record_of_timer k (timer_at s.machine k) in
      let again = changes_timer k overrun_once_more s in
      let sent = generates r s in
      let mid = if is_pending_from k s.machine then again else sent in
      let fell : coming mid.machine + 0 ≤ coming s.machine = if_falls (is_pending_from k s.machine) again sent 0 (coming s.machine)
      (omega (arith, changed_alarms s.machine.now k overrun_once_more (λ x. 0) (λ x. omega arith) s.machine.timers)) (omega (arith, generates_for_falls (acceptor s.machine r) r s)) in
      let due : (timer_at mid.machine k).due ≡ (timer_at s.machine k).due = if_due (is_pending_from k s.machine) again sent k (timer_at s.machine k).due
      (changed-keeps no_timer k k overrun_once_more (λ (x : Timer). x.due) (λ x. refl) s.machine.timers) (generates_for_due (acceptor s.machine r) r k s) in
      let now : mid.machine.now ≡ s.machine.now = if_now (is_pending_from k s.machine) again sent s.machine.now refl (ap (λ (x : Kept). x.now) (generates_kept r s)) in
      let rung : bit (has_come (timer_at mid.machine k).due mid.machine.now) ≡ bit (has_come (timer_at s.machine k).due s.machine.now) = ap₂ (λ (d : Option ℕ) (n : ℕ). bit (has_come d n)) due now in
      let set : alarms mid.machine.now (changed_at no_timer k (armed_again s.machine.now) mid.machine.timers) + bit (has_come (timer_at mid.machine k).due mid.machine.now) ≤ alarms mid.machine.now mid.machine.timers =
      changed_alarms mid.machine.now k (armed_again s.machine.now) (λ (x : Timer). alarm mid.machine.now x) (λ x. none mid.machine.now s.machine.now now x.interval (alarm mid.machine.now x)) mid.machine.timers in
      omega (arith, fell, rung, set)
    where
      if_now : (b : Bool) (x y : Turn P) (n : ℕ) → x.machine.now ≡ n → y.machine.now ≡ n → (if b then x else y).machine.now ≡ n
      if_now true x y n h g = h
      if_now false x y n h g = g

      none : (now then' : ℕ) → now ≡ then' → (interval a : ℕ) → bit (has_come (next_expiry then' interval) now) + a ≤ a
      none now then' e interval a = rw e (omega (arith, next_is_no_alarm then' interval))
