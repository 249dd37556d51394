-- The cleanup handlers of a thread are those of the blocks round its place, and effects leave that so.
use Rattle.std.proofs.Common.{Bool, List, None, Option, Some, [], arith, false, inl, inr, refl, suc, sym, true, zero, ℕ, ◌∷◌, ◌≡◌, ◌⊎◌}
use Rattle.std.specs.Prelude.{option_and_then, if◌then◌else◌}
use mathlib.Core.Path.{subst, ◌∙◌}
use Rattle.words_numbers.specs.declared.res.Res.{Res}
use Rattle.words_numbers.specs.declared.res.Res.TheVariants as res
use Rattle.words_trace.specs.declared.event.Event.{Event}
use Rattle.words_trace.specs.declared.event.Event.TheVariants as event
use Rattle.rules_server.specs.Server.{ServerState, activate}
use Rattle.rules_machine.specs.declared.thread.CondEnd.{CondEnd}
use Rattle.rules_machine.specs.declared.thread.CondEnd.TheVariants as cond_end
use Rattle.rules_machine.specs.State.{Frame, SignalRecord, Thread, Wait, Waiting, for_mutex_again}
use Rattle.rules_machine.specs.Threads.{action_of, is_dormant, is_main, no_thread, thread_at, thread_in, waiting_of}
use Rattle.rules_machine.specs.Waiters.{Waiter, best_waiter}
use Rattle.rules_machine.specs.CallNames.{name_of}
use Rattle.rules_machine.specs.Turns.{Caller, Turn, answered, changes, changes_mutex, frames_answered, moves, returns, tells}
use Rattle.rules_machine.specs.Servers.{activates_if, activates_server, at_once, high_server, with_server}
use Rattle.rules_machine.specs.Waking.{blocks, call_in, cancelled_value, ending_with, last_result, last_value, put_to_wait, wakes, wakes_cancelled, wakes_telling, woken}
use Rattle.rules_machine.specs.Mutexes.{hands_over, is_free, releases, returns_from_wait, taken_by, waits_for_mutex, wakes_owner}
use Rattle.rules_machine.specs.Conditions.{contends, reacquires_or_waits, released_mutex, signals_best_times, signals_waiter, waits_on_condition}
use Rattle.rules_machine.specs.Signals.{acceptor, becomes_pending, delivers, generates, is_accepted_or_pends, is_ignore, tells_overrun}
use Rattle.rules_machine.specs.declared.frame.BodyOf.{BodyOf}
use Rattle.rules_machine.specs.declared.frame.BodyOf.TheVariants as body_of
use Rattle.rules_machine.specs.Clock.{sets_real_clock, thread_moved}
use Rattle.rules_machine.specs.Lists.{changed_at}
use Rattle.rules_machine.specs.GoodState.{main_guards}
use Rattle.rules_moves.proofs.Cores.{dormant_seen, same_read}
use Rattle.rules_moves.proofs.Waiters.Best.{Each}
use Rattle.rules_moves.proofs.Calls.Commuting.{moved_core}
use Rattle.rules_moves.proofs.Calls.Clock.{EachLeads, sets_real_clock_leads}
use Rattle.rules_moves.proofs.Waiters.OfThreads.{changed_is}

abbrev pub is_thread : BodyOf → Bool
is_thread (body_of.Thread t) = true
is_thread (body_of.Cleanup u) = false
is_thread (body_of.Handler h) = false

-- a main frame is in the body of a thread, and no other frame is
abbrev pub FrameFits : {P : Type 0} → Frame P → Type 0
FrameFits f = is_main f.kind ≡ is_thread f.body

-- unless it is ending it has pushed what stands round it; before its start nothing
abbrev pub Clean : {P : Type 0} → (BodyOf → P → List ℕ) → Thread P → Type 0
Clean guards th = (th.is_ending ≡ false → th.cleanups ≡ main_guards guards th.frames) × (is_dormant th.status ≡ true → th.cleanups ≡ []) × Each FrameFits th.frames

abbrev pub Keeps : {P : Type 0} → (BodyOf → P → List ℕ) → Turn P → Turn P → Type 0
Keeps guards s x = (v : ℕ) → Clean guards (thread_at s.machine v) → Clean guards (thread_at x.machine v)

module _ {P : Type 0} (guards : BodyOf → P → List ℕ) where
  abbrev Same : Turn P → Turn P → Type 0
  Same s x = Keeps guards s x

  pub if_same : (b : Bool) (s x y : Turn P) → (b ≡ true → Same s x) → (b ≡ false → Same s y) → Same s (if b then x else y)
  if_same true s x y h k = h refl
  if_same false s x y h k = k refl

  pub change : (t : ℕ) (f : Thread P → Thread P) (s : Turn P) → ((th : Thread P) → Clean guards th → Clean guards (f th)) → Same s (changes t f s)
  change t f s h v q = of_two (changed_is no_thread t v f s.machine.threads)
    where
      of_two : ((t ≡ v) × (thread_in (changed_at no_thread t f s.machine.threads) v ≡ f (thread_at s.machine t))) ⊎ (thread_in (changed_at no_thread t f s.machine.threads) v ≡ thread_at s.machine v) → Clean guards (thread_at (changes t f s).machine v)
      of_two (inl k) = subst (λ (th : Thread P). Clean guards th) (sym k.1) (h (thread_at s.machine t) (subst (λ (i : ℕ). Clean guards (thread_at s.machine i)) (sym k.0) q))
      of_two (inr k) = subst (λ (th : Thread P). Clean guards th) (sym k) q

  answered_guards : (r : Res) (v : ℕ) (fs : List (Frame P)) → main_guards guards fs ≡ main_guards guards (frames_answered r v fs)
  answered_guards r v [] = refl
  answered_guards r v (f ∷ fs) = refl

  answered_fit : (r : Res) (v : ℕ) (fs : List (Frame P)) → Each FrameFits fs → Each FrameFits (frames_answered r v fs)
  answered_fit r v [] each = tt
  answered_fit r v (f ∷ fs) each = each

  answered_clean : (r : Res) (v : ℕ) (th : Thread P) → Clean guards th → Clean guards (answered r v th)
  answered_clean r v th q = (λ e. q.0 e ∙ answered_guards r v th.frames, q.1, answered_fit r v th.frames q.2)

  woken_clean : (r : Res) (v : ℕ) (th : Thread P) → Clean guards th → Clean guards (woken r v th)
  woken_clean r v th q = (λ e. q.0 e ∙ answered_guards r v th.frames, λ e. absurd (grind arith), answered_fit r v th.frames q.2)

  moved_clean : (move : ℕ → ℕ) (th : Thread P) → Clean guards th → Clean guards (thread_moved move th)
  moved_clean move th q = (q.0, λ e. q.1 (sym (same_read is_dormant dormant_seen (thread_moved move th) th (moved_core move th)) ∙ e), q.2)

  blocked_clean : (w : Waiting) (th : Thread P) → Clean guards th → Clean guards (put_to_wait w th)
  blocked_clean w th q = (q.0, λ e. absurd (grind arith), q.2)

  pub ending_clean : (n : ℕ) (th : Thread P) → Clean guards th → Clean guards (ending_with n th)
  ending_clean n th q = (λ e. absurd (grind arith), q.1, q.2)

  pub returned : (by : Caller) (r : Res) (v : ℕ) (s : Turn P) → Same s (returns by r v s)
  returned by r v s = change by.thread (answered r v) s (answered_clean r v)

  clock_sames : EachLeads Same
  clock_sames = record {
    stays = λ s i q. q;
    goes_on = λ s x y a b i q. b i (a i q);
    clock = λ clock s i q. q;
    thread = λ move t s. change t (thread_moved move) s (moved_clean move);
    timer = λ move k s i q. q;
    answer = returned;
  }

  pub clock_same : (by : Caller) (reading : ℕ) (s : Turn P) → Same s (sets_real_clock by reading s)
  clock_same = sets_real_clock_leads Same clock_sames

  pub activated : (t : ℕ) (o : Option ServerState) (s : Turn P) → Same s (activates_server t o s)
  activated t None s = λ i q. q
  activated t (Some server) s = change t (with_server (activate s.machine.now)) s (λ th q. q)

  pub activated_if : (b : Bool) (t : ℕ) (s : Turn P) → Same s (activates_if b t s)
  activated_if true t s = activated t (at_once (thread_at s.machine t).server) s
  activated_if false t s = λ i q. q

  pub woke : (e : Event) (t : ℕ) (r : Res) (v : ℕ) (s : Turn P) → Same s (wakes_telling e t r v s)
  woke e t r v s =
      let up = tells e (moves t (changes t (woken r v) s)) in
      λ i q. (activated t (at_once (high_server (thread_at up.machine t).server)) up) i ((change t (woken r v) s (woken_clean r v)) i q)

  pub wakes_same : (t : ℕ) (r : Res) (v : ℕ) (s : Turn P) → Same s (wakes t r v s)
  wakes_same t r v s = woke (event.Return t (name_of (call_in (waiting_of s.machine t))) r v) t r v s

  pub cancelled_same : (t : ℕ) (s : Turn P) → Same s (wakes_cancelled t s)
  cancelled_same t s =
      let result = last_result t s.machine in
      let value = last_value t s.machine in
      λ i q. (change t (ending_with cancelled_value) (wakes_telling (event.Cancel t) t result value s) (ending_clean cancelled_value)) i ((woke (event.Cancel t) t result value s) i q)

  pub back_same : (how : CondEnd) (t : ℕ) (s : Turn P) → Same s (returns_from_wait how t s)
  back_same cond_end.Signalled t s = wakes_same t res.Zero 0 s
  back_same cond_end.Timedout t s = wakes_same t res.Timedout 0 s
  back_same cond_end.Cancelled t s = cancelled_same t s

  pub owner_same : (wait : Wait) (t : ℕ) (s : Turn P) → Same s (wakes_owner wait t s)
  owner_same (for_mutex_again k how) t s = back_same how t s
  owner_same _ t s = wakes_same t res.Zero 0 s

  pub handed_same : (o : Option Waiter) (k : ℕ) (s : Turn P) → Same s (hands_over o k s)
  handed_same None k s = λ i q. q
  handed_same (Some w) k s = owner_same w.waiting.wait w.thread (changes_mutex k (taken_by w.thread) s)

  pub release_same : (k : ℕ) (s : Turn P) → Same s (releases k s)
  release_same k s = handed_same (best_waiter s.machine (waits_for_mutex k)) k s

  pub sleep_same : (by : Caller) (wait : Wait) (due : Option ℕ) (s : Turn P) → Same s (blocks by wait due s)
  sleep_same by wait due s = change by.thread (put_to_wait (record { wait = wait; serial = s.machine.next_serial; due = due; call = by.call })) s (blocked_clean (record { wait = wait; serial = s.machine.next_serial; due = due; call = by.call }))

  pub doze_same : (w : Waiting) (t : ℕ) (s : Turn P) → Same s (changes t (put_to_wait w) s)
  doze_same w t s = change t (put_to_wait w) s (blocked_clean w)

  contends_for_same : (o : Option ℕ) (t : ℕ) (how : CondEnd) (s : Turn P) → Same s (reacquires_or_waits o t how s)
  contends_for_same None t how s = λ i q. q
  contends_for_same (Some k) t how s =
      if_same (is_free s.machine k) s (returns_from_wait how t (changes_mutex k (taken_by t) s)) (blocks (record { thread = t; call = call_in (waiting_of s.machine t) }) (for_mutex_again k how) None s)
      (λ e. back_same how t (changes_mutex k (taken_by t) s)) (λ e. sleep_same (record { thread = t; call = call_in (waiting_of s.machine t) }) (for_mutex_again k how) None s)

  pub contend_same : (t : ℕ) (how : CondEnd) (s : Turn P) → Same s (contends t how s)
  contend_same t how s = contends_for_same (option_and_then (λ (w : Waiting). released_mutex w.wait) (waiting_of s.machine t)) t how s

  signal_same : (o : Option Waiter) (s : Turn P) → Same s (signals_waiter o s)
  signal_same None s = λ i q. q
  signal_same (Some w) s = contend_same w.thread cond_end.Signalled s

  pub signals_same : (n c : ℕ) (s : Turn P) → Same s (signals_best_times n c s)
  signals_same zero c s = λ i q. q
  signals_same (suc n) c s = let before = signals_best_times n c s in λ i q. (signal_same (best_waiter before.machine (waits_on_condition c)) before) i ((signals_same n c s) i q)

  pub overrun_same : (o : Option ℕ) (s : Turn P) → Same s (tells_overrun o s)
  overrun_same None s = λ i q. q
  overrun_same (Some k) s = λ i q. q

  pub deliver_same : (t : ℕ) (r : SignalRecord) (s : Turn P) → Same s (delivers t r s)
  deliver_same t r s = overrun_same r.timer (tells (event.Deliver t r.signal r.code r.value) s)

  pub generate_same : (r : SignalRecord) (s : Turn P) → Same s (generates r s)
  generate_same r s = by_acceptor (acceptor s.machine r)
    where
      by_acceptor : (o : Option Waiter) → Same s (is_accepted_or_pends o r s)
      by_acceptor (Some w) = λ i q. wakes_same w.thread res.Zero r.signal (delivers w.thread r s) i (deliver_same w.thread r s i q)
      by_acceptor None = if_same (is_ignore (action_of s.machine r.signal)) s s (becomes_pending r s) (λ e i q. q) (λ e i q. q)
