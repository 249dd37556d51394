-- What each effect costs: serials and waits on conditions, against ticks, records of timers and queues, and signal-catching functions.
use Rattle.std.proofs.Common.{Bool, List, None, Option, Some, [], ap, arith, false, length, refl, suc, true, zero, ℕ, ◌+◌, ◌<◌, ◌≤◌, ◌∷◌, ◌++◌, ◌≡◌}
use Rattle.std.specs.Prelude.{filter, is_some, not, option_and_then, ◌*◌, ◌==◌, ◌&&◌, if◌then◌else◌}
use Rattle.std.specs.Option.{option_map_or}
use Rattle.words_numbers.specs.declared.res.Res.{Res}
use Rattle.words_numbers.specs.declared.res.Res.TheVariants as res
use Rattle.words_trace.specs.declared.event.Event.{Event}
use Rattle.words_trace.specs.declared.event.Event.TheVariants as event
use Rattle.rules_server.specs.Server.{ServerState, activate}
use Rattle.rules_machine.specs.declared.frame.FrameKind.{FrameKind}
use Rattle.rules_machine.specs.declared.thread.CondEnd.{CondEnd}
use Rattle.rules_machine.specs.declared.thread.CondEnd.TheVariants as cond_end
use Rattle.rules_machine.specs.Clock.{sets_real_clock, thread_moved}
use Rattle.rules_machine.specs.Lists.{changed_at}
use Rattle.rules_machine.specs.State.{Frame, Machine, SignalRecord, Status, Thread, Wait, Waiting, blocked, dormant, ended, for_condition, for_mutex_again, runnable}
use Rattle.rules_machine.specs.Threads.{action_of, is_live, is_signal, no_thread, thread_at, thread_in, top_kind, waiting_in, waiting_of}
use Rattle.rules_machine.specs.Waiters.{Waiter, best_waiter}
use Rattle.rules_machine.specs.CallNames.{name_of}
use Rattle.rules_machine.specs.Turns.{Caller, Turn, answered, changes, changes_mutex, changes_pending, frames_answered, moves, returns, tells}
use Rattle.rules_machine.specs.Servers.{activates_if, activates_server, at_once, high_server, with_server}
use Rattle.rules_machine.specs.Waking.{blocks, call_in, cancelled_value, ending_with, last_result, last_value, put_to_wait, wakes, wakes_cancelled, wakes_telling, woken}
use Rattle.rules_machine.specs.Mutexes.{hands_over, is_free, releases, returns_from_wait, taken_by, waits_for_mutex, wakes_owner}
use Rattle.rules_machine.specs.Conditions.{contends, reacquires_or_waits, released_mutex, signals_best_times, signals_waiter, waits_on_condition}
use Rattle.rules_machine.specs.Signals.{acceptor, becomes_pending, delivers, generates, is_accepted_or_pends, is_ignore, tells_overrun, without_record}
use Rattle.rules_machine.specs.Lives.{without_target}
use Rattle.rules_machine.specs.GoodState.{waits_on_any_condition}
use Rattle.rules_machine.specs.Lists.{is}
use Rattle.rules_moves.proofs.Cores.{live_seen, same_of_wait, same_read}
use Rattle.rules_moves.proofs.Waiters.Best.{Each}
use Rattle.rules_moves.proofs.Calls.Commuting.{moved_core}
use Rattle.rules_moves.proofs.Calls.Clock.{EachLeads, sets_real_clock_leads}
use Rattle.laws_machine.proofs.Serials.Distinct.{one_if, pends}

-- ---- what counts

abbrev pub sleeping : Status → ℕ
sleeping status = one_if (option_map_or (λ (w : Waiting). waits_on_any_condition w.wait) (waiting_in status) false)

abbrev pub catching_in : Status → FrameKind → ℕ
catching_in status kind = one_if (is_live status && is_signal kind)

abbrev pub catching : {P : Type 0} → Thread P → ℕ
catching th = catching_in th.status (top_kind th.frames)

abbrev pub sleepers : {P : Type 0} → List (Thread P) → ℕ
sleepers [] = 0
sleepers (th ∷ ths) = sleeping th.status + sleepers ths

abbrev pub catchers : {P : Type 0} → List (Thread P) → ℕ
catchers [] = 0
catchers (th ∷ ths) = catching th + catchers ths

abbrev pub weight : SignalRecord → ℕ
weight r = one_if (is_some r.timer) + one_if (is_some r.queue)

abbrev pub sources : List SignalRecord → ℕ
sources [] = 0
sources (r ∷ rs) = weight r + sources rs

abbrev pub debt : {P : Type 0} → Machine P → ℕ
debt m = m.next_serial + sleepers m.threads

abbrev pub bonus : {P : Type 0} → Machine P → ℕ
bonus m = 2 * m.now + sources m.pending + catchers m.threads

-- the one turn leads to the other at that cost at most
abbrev pub Costs : {P : Type 0} → ℕ → Turn P → Turn P → Type 0
Costs c s s' = debt s'.machine + bonus s.machine ≤ debt s.machine + bonus s'.machine + c

-- of one thread
abbrev pub CostsOf : {P : Type 0} → ℕ → Thread P → Thread P → Type 0
CostsOf c old new = sleeping new.status + catching old ≤ sleeping old.status + catching new + c

pub cost_changed : {P : Type 0} (t c : ℕ) (f : Thread P → Thread P) (ths : List (Thread P)) → CostsOf c (thread_in ths t) (f (thread_in ths t)) →
    sleepers (changed_at no_thread t f ths) + catchers ths ≤ sleepers ths + catchers (changed_at no_thread t f ths) + c
cost_changed t c f [] h = omega arith
cost_changed zero c f (th ∷ ths) h = omega (arith, h)
cost_changed (suc t) c f (th ∷ ths) h = omega (arith, cost_changed t c f ths h)

-- one with less, where the thread is there
pub gain_changed : {P : Type 0} (t : ℕ) (f : Thread P → Thread P) (ths : List (Thread P)) → t < length ths → sleeping (f (thread_in ths t)).status + catching (thread_in ths t) + 1 ≤ sleeping (thread_in ths t).status + catching (f (thread_in ths t)) →
    sleepers (changed_at no_thread t f ths) + catchers ths + 1 ≤ sleepers ths + catchers (changed_at no_thread t f ths)
gain_changed t f [] lt h = absurd (omega arith)
gain_changed zero f (th ∷ ths) lt h = omega (arith, h)
gain_changed (suc t) f (th ∷ ths) lt h = omega (arith, gain_changed t f ths (omega arith) h)

abbrev pub IsPlain : SignalRecord → Type 0
IsPlain r = (weight r ≤ 1) × (is_some r.target ≡ true → weight r ≡ 0)

pub sources_out : (n : ℕ) (rs : List SignalRecord) → Each IsPlain rs → sources rs ≤ sources (filter (λ (other : SignalRecord). not (other.serial == n)) rs) + pends n rs
sources_out n [] each = omega arith
sources_out n (r ∷ rs) each = split (r.serial == n) refl (sources_out n rs each.1)
  where
    split : (b : Bool) → (r.serial == n) ≡ b → sources rs ≤ sources (filter (λ (other : SignalRecord). not (other.serial == n)) rs) + pends n rs →
        sources (r ∷ rs) ≤ sources (filter (λ (other : SignalRecord). not (other.serial == n)) (r ∷ rs)) + pends n (r ∷ rs)
    split true e rest = let w = each.0.0 in rw e (omega arith)
    split false e rest = rw e (omega arith)

pub sources_untargeted : (t : ℕ) (rs : List SignalRecord) → Each IsPlain rs → sources rs ≤ sources (without_target t rs)
sources_untargeted t [] each = omega arith
sources_untargeted t (r ∷ rs) each = split (is r.target t) refl (sources_untargeted t rs each.1)
  where
    aimed : (o : Option ℕ) → is o t ≡ true → is_some o ≡ true
    aimed None e = absurd (grind arith)
    aimed (Some u) e = refl

    split : (b : Bool) → is r.target t ≡ b → sources rs ≤ sources (without_target t rs) → sources (r ∷ rs) ≤ sources (without_target t (r ∷ rs))
    split true e rest = let w = each.0.1 (aimed r.target e) in rw e (omega arith)
    split false e rest = rw e (omega arith)

pub sources_last : (rs : List SignalRecord) (r : SignalRecord) → sources (rs ++ r ∷ []) ≡ sources rs + weight r
sources_last [] r = omega arith
sources_last (x ∷ rs) r = omega (arith, sources_last rs r)

pub one_small : (b : Bool) → one_if b ≤ 1
one_small true = omega arith
one_small false = omega arith

-- who waits for a condition
contend_of : (status : Status) (k : ℕ) → option_and_then (λ (w : Waiting). released_mutex w.wait) (waiting_in status) ≡ Some k → sleeping status ≡ 1
contend_of (dormant at) k e = absurd (grind arith)
contend_of runnable k e = absurd (grind arith)
contend_of ended k e = absurd (grind arith)
contend_of (blocked w) k e = by_wait w.wait e
  where
    by_wait : (wait : Wait) → released_mutex wait ≡ Some k → one_if (waits_on_any_condition wait) ≡ 1
    by_wait (for_condition c j) e = refl
    by_wait wait e = absurd (grind arith)

-- ---- effects

module _ {P : Type 0} where
  pub if_costs : (c : ℕ) (b : Bool) (s x y : Turn P) → (b ≡ true → Costs c s x) → (b ≡ false → Costs c s y) → Costs c s (if b then x else y)
  if_costs c true s x y h k = h refl
  if_costs c false s x y h k = k refl

  pub change : (c t : ℕ) (f : Thread P → Thread P) (s : Turn P) → CostsOf c (thread_at s.machine t) (f (thread_at s.machine t)) → Costs c s (changes t f s)
  change c t f s h = let k = cost_changed t c f s.machine.threads h in omega arith

  -- a change that leaves the status and what the top frame is
  pub same : (t : ℕ) (f : Thread P → Thread P) (s : Turn P) → ((th : Thread P) → (f th).status ≡ th.status) → ((th : Thread P) → top_kind (f th).frames ≡ top_kind th.frames) → Costs 0 s (changes t f s)
  same t f s h g = change 0 t f s (kept (thread_at s.machine t))
    where
      kept : (th : Thread P) → CostsOf 0 th (f th)
      kept th = let a = ap sleeping (h th) in let b = ap (λ (status : Status). catching_in status (top_kind (f th).frames)) (h th) in let c = ap (catching_in th.status) (g th) in omega arith

  -- a live thread's new status, which waits for no condition
  pub live_change : (status : Status) (f : Thread P → Thread P) (t : ℕ) (s : Turn P) → is_live status ≡ true → sleeping status ≡ 0 → ((th : Thread P) → (f th).status ≡ status) → ((th : Thread P) → top_kind (f th).frames ≡ top_kind th.frames) → Costs 0 s (changes t f s)
  live_change status f t s live awake h g = change 0 t f s (kept (thread_at s.machine t))
    where
      more : (a b : Bool) → one_if (a && b) ≤ one_if (true && b)
      more true b = omega arith
      more false true = omega arith
      more false false = omega arith

      kept : (th : Thread P) → CostsOf 0 th (f th)
      kept th =
          let a = ap sleeping (h th) in
          let b = ap (λ (x : Status). catching_in x (top_kind (f th).frames)) (h th) in
          let c = ap (catching_in status) (g th) in
          let d = ap (λ (l : Bool). one_if (l && is_signal (top_kind th.frames))) live in
          let e = more (is_live th.status) (is_signal (top_kind th.frames)) in omega arith

  answered_top : (r : Res) (v : ℕ) (fs : List (Frame P)) → top_kind (frames_answered r v fs) ≡ top_kind fs
  answered_top r v [] = refl
  answered_top r v (f ∷ fs) = refl

  pub returned : (by : Caller) (r : Res) (v : ℕ) (s : Turn P) → Costs 0 s (returns by r v s)
  returned by r v s = same by.thread (answered r v) s (λ th. refl) (λ th. answered_top r v th.frames)

  pub activated : (t : ℕ) (o : Option ServerState) (s : Turn P) → Costs 0 s (activates_server t o s)
  activated t None s = omega arith
  activated t (Some server) s = same t (with_server (activate s.machine.now)) s (λ th. refl) (λ th. refl)

  pub activated_if : (b : Bool) (t : ℕ) (s : Turn P) → Costs 0 s (activates_if b t s)
  activated_if true t s = activated t (at_once (thread_at s.machine t).server) s
  activated_if false t s = omega arith

  pub woke : (e : Event) (t : ℕ) (r : Res) (v : ℕ) (s : Turn P) → Costs 0 s (wakes_telling e t r v s)
  woke e t r v s =
      let first = live_change runnable (woken r v) t s refl refl (λ th. refl) (λ th. answered_top r v th.frames) in
      let up = tells e (moves t (changes t (woken r v) s)) in
      let then' = activated t (at_once (high_server (thread_at up.machine t).server)) up in omega arith

  pub wakes_cost : (t : ℕ) (r : Res) (v : ℕ) (s : Turn P) → Costs 0 s (wakes t r v s)
  wakes_cost t r v s = woke (event.Return t (name_of (call_in (waiting_of s.machine t))) r v) t r v s

  -- ---- the clock

  time_cost : (move : ℕ → ℕ) (t : ℕ) (s : Turn P) → Costs 0 s (changes t (thread_moved move) s)
  time_cost move t s = change 0 t (thread_moved move) s (kept (thread_at s.machine t))
    where
      kept : (th : Thread P) → CostsOf 0 th (thread_moved move th)
      kept th =
          let same = moved_core move th in
          let a = same_of_wait (λ (o : Option Waiting). one_if (option_map_or (λ (w : Waiting). waits_on_any_condition w.wait) o false)) (λ w. refl) (thread_moved move th) th same in
          let b = ap (λ (live : Bool). one_if (live && is_signal (top_kind th.frames))) (same_read is_live live_seen (thread_moved move th) th same) in omega arith

  clock_costs : EachLeads (λ (s x : Turn P). Costs 0 s x)
  clock_costs = record {
    stays = λ s. omega arith;
    goes_on = λ s x y a b. omega (arith, a, b);
    clock = λ clock s. omega arith;
    thread = time_cost;
    timer = λ move k s. omega arith;
    answer = returned;
  }

  pub clock_cost : (by : Caller) (reading : ℕ) (s : Turn P) → Costs 0 s (sets_real_clock by reading s)
  clock_cost = sets_real_clock_leads (λ (s x : Turn P). Costs 0 s x) clock_costs

  pub cancelled_cost : (t : ℕ) (s : Turn P) → Costs 0 s (wakes_cancelled t s)
  cancelled_cost t s =
      let result = last_result t s.machine in
      let value = last_value t s.machine in
      let up = wakes_telling (event.Cancel t) t result value s in
      let a = woke (event.Cancel t) t result value s in let b = same t (ending_with cancelled_value) up (λ th. refl) (λ th. refl) in omega arith

  pub back_cost : (how : CondEnd) (t : ℕ) (s : Turn P) → Costs 0 s (returns_from_wait how t s)
  back_cost cond_end.Signalled t s = wakes_cost t res.Zero 0 s
  back_cost cond_end.Timedout t s = wakes_cost t res.Timedout 0 s
  back_cost cond_end.Cancelled t s = cancelled_cost t s

  pub owner_cost : (wait : Wait) (t : ℕ) (s : Turn P) → Costs 0 s (wakes_owner wait t s)
  owner_cost (for_mutex_again k how) t s = back_cost how t s
  owner_cost _ t s = wakes_cost t res.Zero 0 s

  -- a mutex costs nothing
  pub over_cost : (o : Option Waiter) (k : ℕ) (s : Turn P) → Costs 0 s (hands_over o k s)
  over_cost None k s = omega arith
  over_cost (Some w) k s = owner_cost w.waiting.wait w.thread (changes_mutex k (taken_by w.thread) s)

  pub release_cost : (k : ℕ) (s : Turn P) → Costs 0 s (releases k s)
  release_cost k s = over_cost (best_waiter s.machine (waits_for_mutex k)) k s

  -- ---- waits

  asleep_of : (w : Waiting) (th : Thread P) → CostsOf (sleeping (blocked w)) th (put_to_wait w th)
  asleep_of w th = let e = more (is_live th.status) (is_signal (top_kind th.frames)) in omega arith
    where
      more : (a b : Bool) → one_if (a && b) ≤ one_if (true && b)
      more true b = omega arith
      more false true = omega arith
      more false false = omega arith

  pub sleep_cost : (by : Caller) (wait : Wait) (due : Option ℕ) (s : Turn P) → Costs 2 s (blocks by wait due s)
  sleep_cost by wait due s =
      let w : Waiting = record { wait = wait; serial = s.machine.next_serial; due = due; call = by.call } in
      let k = cost_changed by.thread (sleeping (blocked w)) (put_to_wait w) s.machine.threads (asleep_of w (thread_at s.machine by.thread)) in
      let small = one_small (waits_on_any_condition wait) in omega arith

  -- a wait for no condition and without a serial
  pub doze_cost : (w : Waiting) (t : ℕ) (s : Turn P) → waits_on_any_condition w.wait ≡ false → Costs 0 s (changes t (put_to_wait w) s)
  doze_cost w t s h = let k = change (sleeping (blocked w)) t (put_to_wait w) s (asleep_of w (thread_at s.machine t)) in let none = ap one_if h in omega arith

  -- who contends for the mutex of its condition wait pays with that wait
  contends_for_cost : (o : Option ℕ) (t : ℕ) (how : CondEnd) (s : Turn P) → option_and_then (λ (w : Waiting). released_mutex w.wait) (waiting_of s.machine t) ≡ o → Costs 0 s (reacquires_or_waits o t how s)
  contends_for_cost None t how s e = omega arith
  contends_for_cost (Some k) t how s e = by_free (is_free s.machine k)
    where
      w : Waiting
      w = record { wait = for_mutex_again k how; serial = s.machine.next_serial; due = None; call = call_in (waiting_of s.machine t) }

      by_free : (b : Bool) → Costs 0 s (if b then returns_from_wait how t (changes_mutex k (taken_by t) s) else blocks (record { thread = t; call = call_in (waiting_of s.machine t) }) (for_mutex_again k how) None s)
      by_free true = back_cost how t (changes_mutex k (taken_by t) s)
      by_free false =
          let paid = contend_of (thread_at s.machine t).status k e in
          let lt : t < length s.machine.threads = sleeper_known s.machine.threads t paid in
          let less = gain_changed t (put_to_wait w) s.machine.threads lt (paying (thread_at s.machine t) paid) in omega arith
        where
          sleeper_known : (ths : List (Thread P)) (t : ℕ) → sleeping (thread_in ths t).status ≡ 1 → t < length ths
          sleeper_known [] t e = absurd (omega arith)
          sleeper_known (th ∷ ths) zero e = omega arith
          sleeper_known (th ∷ ths) (suc t) e = let rest = sleeper_known ths t e in omega arith

          live_more : (a b : Bool) → one_if (a && b) ≤ one_if (true && b)
          live_more true b = omega arith
          live_more false true = omega arith
          live_more false false = omega arith

          paying : (th : Thread P) → sleeping th.status ≡ 1 → sleeping (put_to_wait w th).status + catching th + 1 ≤ sleeping th.status + catching (put_to_wait w th)
          paying th paid = let both : catching th ≤ catching (put_to_wait w th) = live_more (is_live th.status) (is_signal (top_kind th.frames)) in omega arith

  pub contend_cost : (t : ℕ) (how : CondEnd) (s : Turn P) → Costs 0 s (contends t how s)
  contend_cost t how s = contends_for_cost (option_and_then (λ (w : Waiting). released_mutex w.wait) (waiting_of s.machine t)) t how s refl

  signal_cost : (o : Option Waiter) (s : Turn P) → Costs 0 s (signals_waiter o s)
  signal_cost None s = omega arith
  signal_cost (Some w) s = contend_cost w.thread cond_end.Signalled s

  pub signals_cost : (n c : ℕ) (s : Turn P) → Costs 0 s (signals_best_times n c s)
  signals_cost zero c s = omega arith
  signals_cost (suc n) c s =
      let before = signals_best_times n c s in
      let a = signals_cost n c s in let b = signal_cost (best_waiter before.machine (waits_on_condition c)) before in omega arith

  -- ---- signals

  pub overrun_cost : (o : Option ℕ) (s : Turn P) → Costs 0 s (tells_overrun o s)
  overrun_cost None s = omega arith
  overrun_cost (Some k) s = omega arith

  pub deliver_cost : (t : ℕ) (r : SignalRecord) (s : Turn P) → Costs 0 s (delivers t r s)
  deliver_cost t r s = overrun_cost r.timer (tells (event.Deliver t r.signal r.code r.value) s)

  -- a record of neither costs its serial
  pub generate_cost : (c : ℕ) (r : SignalRecord) (s : Turn P) → 1 ≤ weight r + c → Costs c s (generates r s)
  generate_cost c r s h = by_acceptor (acceptor s.machine r)
    where
      by_ignore : (b : Bool) → Costs c s (if b then s else becomes_pending r s)
      by_ignore true = omega arith
      by_ignore false = let last = sources_last s.machine.pending (record r { serial = s.machine.next_serial }) in omega arith

      by_acceptor : (o : Option Waiter) → Costs c s (is_accepted_or_pends o r s)
      by_acceptor (Some w) = let a = deliver_cost w.thread r s in let b = wakes_cost w.thread res.Zero r.signal (delivers w.thread r s) in omega arith
      by_acceptor None = by_ignore (is_ignore (action_of s.machine r.signal))

  -- a record that goes
  pub out_cost : (r : SignalRecord) (s : Turn P) → Each IsPlain s.machine.pending → pends r.serial s.machine.pending ≤ 1 → Costs 1 s (changes_pending (without_record r) s)
  out_cost r s plain once = let k = sources_out r.serial s.machine.pending plain in omega arith
