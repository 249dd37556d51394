-- What threads keep, sweeps and due items keep.
use Rattle.std.proofs.Common.{Bool, List, None, Option, Some, [], ap, arith, false, refl, suc, true, zero, ℕ, ◌∙◌, ◌∷◌, ◌≡◌}
use Rattle.words_numbers.specs.declared.item.Item.{Item}
use Rattle.words_numbers.specs.declared.item.Item.TheVariants as item
use Rattle.words_numbers.specs.declared.res.Res.{Res}
use Rattle.words_numbers.specs.declared.res.Res.TheVariants as res
use Rattle.std.specs.Prelude.{if◌then◌else◌}
use Rattle.rules_bodies.specs.Next.{capped}
use Rattle.words_trace.specs.declared.event.Event.TheVariants as event
use Rattle.rules_server.specs.Server.{ServerState, activate}
use Rattle.rules_machine.specs.declared.frame.BodyOf.TheVariants as body_of
use Rattle.rules_machine.specs.declared.frame.FrameKind.TheVariants as frame
use Rattle.rules_machine.specs.declared.signal.SigAction.{SigAction}
use Rattle.rules_machine.specs.declared.signal.SigAction.TheVariants as action
use Rattle.rules_machine.specs.declared.thread.CondEnd.TheVariants as cond_end
use Rattle.rules_machine.specs.State.{Frame, SignalRecord, Thread, Wait, Waiting, for_condition, for_signal, for_time}
use Rattle.rules_machine.specs.Threads.{action_of, catches_signal, is_signal, no_thread, thread_at, thread_numbers, top_kind, waiting_of}
use Rattle.rules_machine.specs.Turns.{Turn, changes, changes_pending, frames_answered, moves, settles_since, tells}
use Rattle.rules_machine.specs.CallNames.{name_of}
use Rattle.rules_machine.specs.Servers.{activates_server, at_once, high_server, with_server}
use Rattle.rules_machine.specs.Waking.{call_in, new_frame, on_top, woken}
use Rattle.rules_machine.specs.Signals.{delivers, selected, tells_overrun, without_record}
use Rattle.rules_machine.specs.Delivery.{acts, can_take, interrupts, may_be_interrupted, sweeps, sweeps_all, sweeps_thread, takes_record, ticks_left}
use Rattle.rules_machine.specs.DueItems.{handles, instant, item_bound, item_done, item_then, items_done, next_item, times_out, wait_times_out}
use Rattle.rules_machine.proofs.Reading.{changed-keeps}
use Rattle.laws_threads.specs.EachThread.{ActionKnown, Closed, Given}
use Rattle.laws_threads.proofs.Changes.{Holds, changes_hold}
use Rattle.laws_threads.proofs.Waking.{contends_hold, refills_hold, starts_hold, wakes_hold}
use Rattle.laws_threads.proofs.Calls.{delivers_hold, expires_hold, taken_out_holds}

-- ---- a thread that wakes stays in the frames that it was in

module _ {P : Type 0} where
  pub answered_kind : (r : Res) (value : ℕ) (fs : List (Frame P)) → top_kind (frames_answered r value fs) ≡ top_kind fs
  answered_kind r value [] = refl
  answered_kind r value (f ∷ fs) = refl

  activates_catches : (t u : ℕ) (o : Option ServerState) (s : Turn P) → catches_signal (thread_at (activates_server t o s).machine u) ≡ catches_signal (thread_at s.machine u)
  activates_catches t u None s = refl
  activates_catches t u (Some server) s = changed-keeps no_thread t u (with_server (activate s.machine.now)) catches_signal (λ th. refl) s.machine.threads

  interrupts_catches : (w : Option Waiting) (t u : ℕ) (s : Turn P) → catches_signal (thread_at (interrupts w t s).machine u) ≡ catches_signal (thread_at s.machine u)
  interrupts_catches None t u s = refl
  interrupts_catches (Some w) t u s =
      let value = ticks_left w.call w.due s.machine.now in
      let x = tells (event.Return t (name_of (call_in (waiting_of s.machine t))) res.Intr value) (moves t (changes t (woken res.Intr value) s)) in
      activates_catches t u (at_once (high_server (thread_at x.machine t).server)) x
      ∙ changed-keeps no_thread t u (woken res.Intr value) catches_signal (λ th. ap is_signal (answered_kind res.Intr value th.frames)) s.machine.threads

  delivers_catches : (t u : ℕ) (r : SignalRecord) (s : Turn P) → catches_signal (thread_at (delivers t r s).machine u) ≡ catches_signal (thread_at s.machine u)
  delivers_catches t u r s = told r.timer
    where
      told : (k : Option ℕ) → catches_signal (thread_at (tells_overrun k (tells (event.Deliver t r.signal r.code r.value) s)).machine u) ≡ catches_signal (thread_at s.machine u)
      told None = refl
      told (Some k) = refl

module _ {P : Type 0} (given : Given P) (Q : ℕ → ℕ → Thread P → Type 0) (closed : Closed given Q) where
  abbrev Holding : Turn P → Type 0
  Holding s = Holds given Q s

  -- ---- the sweep

  pub interrupts_hold : (w : Option Waiting) (t : ℕ) (s : Turn P) → Holding s → Holding (interrupts w t s)
  interrupts_hold None t s h = h
  interrupts_hold (Some w) t s h = wakes_hold given Q closed t res.Intr (ticks_left w.call w.due s.machine.now) s h

  pub acts_hold : (a : SigAction) (t : ℕ) (r : SignalRecord) (s : Turn P) → ActionKnown given a → catches_signal (thread_at s.machine t) ≡ false → Holding s → Holding (acts given.bodies a t r s)
  acts_hold action.Kill t r s known free h = h
  acts_hold action.Ignore t r s known free h = h
  acts_hold (action.Handler n) t r s known free h =
      let out = changes_pending (without_record r) s in
      let woke = interrupts (waiting_of s.machine t) t out in
      let x = delivers t r woke in
      changes_hold given Q t (on_top (new_frame given.bodies frame.Signal (body_of.Handler n) (capped r.value))) x
      (λ lt q. closed.catches x.machine.now t (thread_at x.machine t) n r.value known (delivers_catches t t r woke ∙ interrupts_catches (waiting_of s.machine t) t t out ∙ free) q)
      (delivers_hold given Q closed t r woke (interrupts_hold (waiting_of s.machine t) t out (taken_out_holds given Q closed r s h)))

  pub takes_record_hold : (r : Option SignalRecord) (t : ℕ) (s : Turn P) → catches_signal (thread_at s.machine t) ≡ false → Holding s → Holding (takes_record given.bodies r t s)
  takes_record_hold None t s free h = h
  takes_record_hold (Some r) t s free h = acts_hold (action_of s.machine r.signal) t r s (h.handled r.signal) free h

  pub sweeps_thread_hold : (killed : Option ℕ) (t : ℕ) (s : Turn P) → Holding s → Holding (sweeps_thread given.bodies killed t s)
  sweeps_thread_hold (Some signal) t s h = h
  sweeps_thread_hold None t s h = free_or_not (may_be_interrupted (thread_at s.machine t)) refl
    where
      free_or_not : (b : Bool) → may_be_interrupted (thread_at s.machine t) ≡ b → Holding (takes_record given.bodies (if b then selected s.machine (can_take s.machine t) else None) t s)
      free_or_not true e = takes_record_hold (selected s.machine (can_take s.machine t)) t s (grind arith) h
      free_or_not false e = h

  pub sweeps_all_hold : (ts : List ℕ) (s : Turn P) → Holding s → Holding (sweeps_all given.bodies ts s)
  sweeps_all_hold [] s h = h
  sweeps_all_hold (t ∷ ts) s h = sweeps_all_hold ts (sweeps_thread given.bodies s.machine.killed t s) (sweeps_thread_hold s.machine.killed t s h)

  pub sweeps_hold : (s : Turn P) → Holding s → Holding (sweeps given.bodies s)
  sweeps_hold s h = sweeps_all_hold (thread_numbers s.machine) s h

  -- ---- due items

  times_out_of_hold : (wait : Wait) (t : ℕ) (s : Turn P) → Holding s → Holding (wait_times_out wait t s)
  times_out_of_hold (for_condition c k) t s h = contends_hold given Q closed t cond_end.Timedout s tt h
  times_out_of_hold for_time t s h = wakes_hold given Q closed t res.Zero 0 s h
  times_out_of_hold (for_signal set) t s h = wakes_hold given Q closed t res.Again 0 s h
  times_out_of_hold _ t s h = wakes_hold given Q closed t res.Timedout 0 s h

  pub times_out_hold : (w : Option Waiting) (t : ℕ) (s : Turn P) → Holding s → Holding (times_out w t s)
  times_out_hold None t s h = h
  times_out_hold (Some w) t s h = times_out_of_hold w.wait t s h

  pub handles_hold : (i : Item) (s : Turn P) → Holding s → Holding (handles given.bodies i s)
  handles_hold (item.Refill t) s h = refills_hold given Q closed t (thread_at s.machine t).server s h
  handles_hold (item.Start t) s h = starts_hold given Q closed t 0 s h
  handles_hold (item.Timeout t) s h = times_out_hold (waiting_of s.machine t) t s h
  handles_hold (item.Timer k) s h = expires_hold given Q closed k s h

  pub item_done_hold : (i : Item) (s : Turn P) → Holding s → Holding (item_done given.bodies i s)
  item_done_hold i s h = sweeps_hold (settles_since s.machine (handles given.bodies i s)) (handles_hold i s h)

  item_then_hold : (o : Option Item) (rest : Turn P → Turn P) (s : Turn P) → ((s : Turn P) → Holding s → Holding (rest s)) → Holding s → Holding (item_then given.bodies o rest s)
  item_then_hold None rest s keeps h = h
  item_then_hold (Some i) rest s keeps h = keeps (item_done given.bodies i s) (item_done_hold i s h)

  pub items_done_hold : (most : ℕ) (s : Turn P) → Holding s → Holding (items_done given.bodies most s)
  items_done_hold zero s h = h
  items_done_hold (suc most) s h = item_then_hold (next_item s.machine) (items_done given.bodies most) s (items_done_hold most) h

  pub instant_hold : (s : Turn P) → Holding s → Holding (instant given.bodies s)
  instant_hold s h = items_done_hold (item_bound s.machine) s h
