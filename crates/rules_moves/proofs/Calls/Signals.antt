-- What every move keeps, signals, sleeps and expiries of timers keep.
use Rattle.std.proofs.Common.{Bool, None, Option, Some, ap, arith, false, refl, suc, sym, true, zero, ℕ, ◌+◌, ◌≡◌}
use Rattle.std.specs.Prelude.{is_none, not, ◌&&◌, if◌then◌else◌}
use mathlib.Core.Path.{subst, ◌∙◌}
use Rattle.words_numbers.specs.Signals.{has_signal}
use Rattle.words_numbers.specs.declared.res.Res.{Res}
use Rattle.words_numbers.specs.declared.res.Res.TheVariants as res
use Rattle.words_trace.specs.declared.event.Event.TheVariants as event
use Rattle.rules_machine.specs.Lists.{is}
use Rattle.rules_machine.specs.Bodies.{Bodies}
use Rattle.rules_machine.specs.State.{Machine, SignalRecord, Timer, Wait, for_end, for_signal, for_time}
use Rattle.rules_machine.specs.Threads.{action_of, thread_in, timer_at, waiting_in}
use Rattle.rules_machine.specs.Waiters.{Waiter}
use Rattle.rules_machine.specs.Turns.{Caller, Turn, answered, has_passed, returns, tells}
use Rattle.rules_machine.specs.Signals.{acceptor, accepts, delivers, generates, is_accepted_or_pends, may_go_to, has_no_room, is_full, is_ignore, selected, sends_signal, tells_overrun, waits_signal, takes_signal_or_waits, blocks_for_signal, with_overrun_told}
use Rattle.rules_machine.specs.DueItems.{has_come, timer_due}
use Rattle.rules_machine.specs.Timers.{armed_again, expires, is_pending_from, overrun_once_more, record_of_timer, signals_expiry, sleeps_until}
use Rattle.rules_moves.specs.Moves.{KeepsAwake, Stops, is_for_end, Runs, MayPend, record_in, record_out, sets_timer_by, tells_of}
use Rattle.rules_moves.proofs.Waiters.Best.{WaitsSo}
use Rattle.rules_moves.proofs.Calls.Answers.{acceptor_kept, acceptor_waits}
use Rattle.rules_moves.proofs.Calls.Objects.{wait_may, answers_done, branch, either, returns_keep, status_in, wakes_keep}

overrun_threads : {P : Type 0} (o : Option ℕ) (s : Turn P) → (tells_overrun o s).machine.threads ≡ s.machine.threads
overrun_threads None s = refl
overrun_threads (Some k) s = refl

pub delivered_status : {P : Type 0} (t : ℕ) (r : SignalRecord) (s : Turn P) (u : ℕ) → status_in (delivers t r s) u ≡ status_in s u
delivered_status t r s u = ap (λ threads. (thread_in threads u).status) (overrun_threads r.timer (tells (event.Deliver t r.signal r.code r.value) s))

accepts_not_end : (r : SignalRecord) (wait : Wait) → accepts r wait ≡ true → is_for_end wait ≡ false
accepts_not_end r (for_end u) e = absurd (grind arith)
accepts_not_end r wait e = refl

-- a record becomes pending only where nobody accepts it, and it is not ignored
abbrev pub MayGenerate : {P : Type 0} → Machine P → SignalRecord → Type 0
MayGenerate m r = acceptor m r ≡ None → is_ignore (action_of m r.signal) ≡ false → MayPend m r

module _ {P : Type 0} (bodies : Bodies P) (who : Option ℕ) (Law Done : Turn P → Type 0) (keeps : KeepsAwake bodies who Law) (stops : Stops who Law Done) where
  either' : (b : Bool) (x y : Turn P) → (b ≡ true → Law x) → (b ≡ false → Law y) → Law (if b then x else y)
  either' = either bodies who Law Done keeps stops

  answer : (by : Caller) (r : Res) (v : ℕ) (s : Turn P) → Law s → Law (returns by r v s)
  answer = returns_keep bodies who Law Done keeps stops

  branch' : (b : Bool) (x y : Turn P) → (b ≡ true → Done x) → (b ≡ false → Done y) → Done (if b then x else y)
  branch' = branch bodies who Law Done keeps stops

  reply : (by : Caller) (r : Res) (v : ℕ) (s : Turn P) → Law s → Done (returns by r v s)
  reply = answers_done bodies who Law Done keeps stops

  -- ---- signals

  overrun_keep : (o : Option ℕ) (s : Turn P) → Law s → Law (tells_overrun o s)
  overrun_keep None s q = q
  overrun_keep (Some k) s q = keeps (sets_timer_by k with_overrun_told) s tt q

  pub delivers_keep : (t : ℕ) (r : SignalRecord) (s : Turn P) → Law s → Law (delivers t r s)
  delivers_keep t r s q =
      let e = event.Deliver t r.signal r.code r.value in
      overrun_keep r.timer (tells e s) (keeps (tells_of e) s refl q)

  pub accepted_keep : (w : Waiter) (r : SignalRecord) (s : Turn P) → WaitsSo s.machine (accepts r) w.thread w.waiting → Law s → Law (is_accepted_or_pends (Some w) r s)
  accepted_keep w r s b q =
      wakes_keep bodies who Law Done keeps stops w.thread res.Zero r.signal (delivers w.thread r s) (wait_may (delivers w.thread r s).machine w.thread w.waiting (ap waiting_in (delivered_status w.thread r s w.thread) ∙ b.0) (accepts_not_end r w.waiting.wait b.1)) (delivers_keep w.thread r s q)

  generates_for_keep : (o : Option Waiter) (r : SignalRecord) (s : Turn P) → acceptor s.machine r ≡ o → MayGenerate s.machine r → Law s → Law (is_accepted_or_pends o r s)
  generates_for_keep (Some w) r s e may q = accepted_keep w r s (acceptor_waits s.machine r w e) q
  generates_for_keep None r s e may q =
      either' (is_ignore (action_of s.machine r.signal)) _ _ (λ ignored. q) (λ taken. keeps (record_in r) s (may e taken, taken) q)

  pub generates_keep : (r : SignalRecord) (s : Turn P) → MayGenerate s.machine r → Law s → Law (generates r s)
  generates_keep r s may q = generates_for_keep (acceptor s.machine r) r s refl may q

  -- a record that neither a timer nor a queue sends
  pub record Sent (r : SignalRecord) : Type 0 where
    pub timer : r.timer ≡ None
    pub queue : r.queue ≡ None

  sent_may : (by : Caller) (r : SignalRecord) (s : Turn P) → Sent r → has_no_room s.machine r ≡ false → MayGenerate (returns by res.Zero 0 s).machine r
  sent_may by r s sent room none taken = record {
    few = λ counted. full (acceptor s.machine r) (is_ignore (action_of s.machine r.signal)) (is_full s.machine) (sym (acceptor_kept s.machine by.thread (answered res.Zero 0) r (λ th. refl) (λ th. refl)) ∙ none) taken room;
    timer = λ k h. absurd (of_none k h);
    queue = sent.queue;
    due = λ k h. absurd (of_none k h);
    aimed = λ e. sent.timer;
  }
    where
      of_none : (k : ℕ) → is r.timer k ≡ true → ⊥
      of_none k h = let e : r.timer ≡ None = sent.timer in let f : is None k ≡ true = ap (λ o. is o k) (sym e) ∙ h in grind arith

      full : (o : Option Waiter) (ignored full' : Bool) → o ≡ None → ignored ≡ false → (is_none o && not ignored && full') ≡ false → full' ≡ false
      full None true full' e f g = absurd (grind arith)
      full None false full' e f g = grind arith
      full (Some w) ignored full' e f g = absurd (grind arith)

  pub sends_signal_keep : (by : Caller) (r : SignalRecord) (s : Turn P) → Sent r → Law s → Law (sends_signal by r s)
  sends_signal_keep by r s sent q =
      either' (has_no_room s.machine r) _ _ (λ none. answer by res.Again 0 s q) (λ room. generates_keep r (returns by res.Zero 0 s) (sent_may by r s sent room) (answer by res.Zero 0 s q))

  waits_ticks_keep : (n : Option ℕ) (by : Caller) (set : ℕ) (s : Turn P) → Runs who s.machine by.thread → Law s → Done (blocks_for_signal n by set s)
  waits_ticks_keep None by set s runs q = stops.sleeps by (for_signal set) None s runs runs q
  waits_ticks_keep (Some zero) by set s runs q = reply by res.Again 0 s q
  waits_ticks_keep (Some (suc n)) by set s runs q = stops.sleeps by (for_signal set) (Some (s.machine.now + suc n)) s runs runs q

  waits_signal_on_keep : (o : Option SignalRecord) (n : Option ℕ) (by : Caller) (set : ℕ) (s : Turn P) → Runs who s.machine by.thread → Law s → Done (takes_signal_or_waits o n by set s)
  waits_signal_on_keep (Some r) n by set s runs q = reply by res.Zero r.signal _ (delivers_keep by.thread r _ (keeps (record_out r) s tt q))
  waits_signal_on_keep None n by set s runs q = waits_ticks_keep n by set s runs q

  pub waits_signal_keep : (n : Option ℕ) (by : Caller) (set : ℕ) (s : Turn P) → Runs who s.machine by.thread → Law s → Done (waits_signal n by set s)
  waits_signal_keep n by set s runs q = waits_signal_on_keep (selected s.machine (λ (r : SignalRecord). has_signal set r.signal && may_go_to by.thread r.target)) n by set s runs q

  -- ---- time

  pub sleeps_until_keep : (by : Caller) (at : ℕ) (s : Turn P) → Runs who s.machine by.thread → Law s → Done (sleeps_until by at s)
  sleeps_until_keep by at s runs q =
      branch' (has_passed at s.machine) _ _ (λ passed. reply by res.Zero 0 s q) (λ later. stops.dozes by for_time (Some at) s runs runs refl q)

  timer_may : (k : ℕ) (m : Machine P) (timer : Timer) → has_come (timer_due m k) m.now ≡ true → is_pending_from k m ≡ false → MayPend m (record_of_timer k timer)
  timer_may k m timer due h = record {
    few = λ counted. absurd (grind arith);
    timer = λ j e. let same : k ≡ j = grind arith in subst (λ (i : ℕ). is_pending_from i m ≡ false) same h;
    queue = refl;
    due = λ j e. let same : k ≡ j = grind arith in subst (λ (i : ℕ). has_come (timer_due m i) m.now ≡ true) same due;
    aimed = λ e. absurd (grind arith);
  }

  pub expires_keep : (k : ℕ) (s : Turn P) → has_come (timer_due s.machine k) s.machine.now ≡ true → Law s → Law (expires k s)
  expires_keep k s due q =
      keeps (sets_timer_by k (armed_again s.machine.now)) (signals_expiry k s) tt
      (either' (is_pending_from k s.machine) _ _ (λ pending. keeps (sets_timer_by k overrun_once_more) s tt q)
      (λ none. generates_keep (record_of_timer k (timer_at s.machine k)) s (λ e taken. timer_may k s.machine (timer_at s.machine k) due none) q))
