-- What holds of each single thread, and which changes of a thread a machine makes. All of it is this project's own.
use Rattle.std.specs.Prelude.{Bool, List, Option, Some, false, is_some, length, true, ℕ, ◌+◌, ◌<◌, ◌∷◌, ◌≡◌, ◌⊎◌, ◌||◌}
use Rattle.words_numbers.specs.declared.res.Res.{Res}
use Rattle.words_numbers.specs.declared.res.Res.TheVariants as res
use Rattle.words_script.specs.declared.call.Call.{Call}
use Rattle.words_script.specs.declared.call.Call.TheVariants as call
use Rattle.words_script.specs.declared.call.Operand.{Operand}
use Rattle.words_script.specs.declared.policy.Policy.{Policy}
use Rattle.rules_bodies.specs.declared.unit.Unit as units
use Rattle.rules_bodies.specs.declared.unit.Unit.TheVariants as unit
use Rattle.rules_bodies.specs.Next.{capped}
use Rattle.rules_server.specs.Server.{activate, plan, refill}
use Rattle.rules_machine.specs.declared.frame.BodyOf.TheVariants as body_of
use Rattle.rules_machine.specs.declared.frame.FrameKind.TheVariants as frame
use Rattle.rules_machine.specs.declared.signal.SigAction.{SigAction}
use Rattle.rules_machine.specs.declared.signal.SigAction.TheVariants as action
use Rattle.rules_machine.specs.declared.thread.CondEnd.{CondEnd}
use Rattle.rules_machine.specs.declared.thread.CondEnd.TheVariants as cond_end
use Rattle.rules_machine.specs.Lists.{is}
use Rattle.rules_machine.specs.Bodies.{Bodies}
use Rattle.rules_machine.specs.Clock.{thread_moved}
use Rattle.rules_machine.specs.State.{Joiner, Message, SignalRecord, Thread, Wait, Waiting, for_condition, for_end, for_message, for_mutex, for_mutex_again, for_room, for_semaphore, for_signal, for_time, has_joined, nobody, waits_to_join}
use Rattle.rules_machine.specs.Threads.{catches_signal, is_main, thread_in, top_kind, waiting_in}
use Rattle.rules_machine.specs.Turns.{answered}
use Rattle.rules_machine.specs.Servers.{with_server}
use Rattle.rules_machine.specs.Signals.{is_counted}
use Rattle.rules_machine.specs.Waking.{ending_with, new_frame, on_top, put_to_wait, started, woken}
use Rattle.rules_machine.specs.Lives.{with_joiner, without_life, without_top}
use Rattle.rules_machine.specs.Cancellation.{request_acts, requested, runs_cleanup_if, without_cleanup}
use Rattle.rules_machine.specs.Scheduling.{with_policy, with_priority}
use Rattle.rules_machine.specs.Units.{in_unit}
use Rattle.rules_machine.specs.Ticks.{tick_charged, without_slice}

-- A law of a thread speaks of the instant, of the thread's number and of the thread.
abbrev pub EachIn : {P : Type 0} → (ℕ → ℕ → Thread P → Type 0) → ℕ → List (Thread P) → Type 0
EachIn Q now threads = (u : ℕ) → u < length threads → Q now u (thread_in threads u)

-- ---- what is known of a machine

-- its bodies, how many threads it has, which handlers its signals may have, which calls a thread may make, what it may wait for, which
-- signals timers and queues may send, and which records may be pending
pub record Given (P : Type 0) : Type 1 where
  pub bodies : Bodies P
  pub count : ℕ
  pub Handles : ℕ → Type 0
  pub Known : Thread P → Call → Type 0
  pub Waits : Wait → Type 0
  pub Sends : ℕ → Type 0
  pub Pends : SignalRecord → Type 0

-- what a call may wait for
abbrev pub MakesWait : Call → Wait → Type 0
MakesWait (call.Join u) w = w ≡ for_end u
MakesWait (call.Lock k) w = w ≡ for_mutex k
MakesWait (call.Timedlock k at) w = w ≡ for_mutex k
MakesWait (call.Trylock k) w = w ≡ for_mutex k
MakesWait (call.Wait c k) w = w ≡ for_condition c k
MakesWait (call.Timedwait c k at) w = w ≡ for_condition c k
MakesWait (call.SemWait k) w = w ≡ for_semaphore k
MakesWait (call.SemTimedwait k at) w = w ≡ for_semaphore k
MakesWait (call.Nanosleep n) w = w ≡ for_time
MakesWait (call.ClockNanosleep at) w = w ≡ for_time
MakesWait (call.Sigwaitinfo set) w = w ≡ for_signal set
MakesWait (call.Sigtimedwait set n) w = w ≡ for_signal set
MakesWait (call.MqSend q len p v) w = (x : Message) × (w ≡ for_room q x) × (x.priority ≡ p)
MakesWait (call.MqTimedsend q len p v at) w = (x : Message) × (w ≡ for_room q x) × (x.priority ≡ p)
MakesWait (call.MqReceive q) w = w ≡ for_message q
MakesWait (call.MqTimedreceive q at) w = w ≡ for_message q
MakesWait other w = ⊥

-- a record of a call, of a timer or of a queue
abbrev pub IsSourced : SignalRecord → Type 0
IsSourced r = (is_counted r.code || is_some r.timer || is_some r.queue) ≡ true

module _ {P : Type 0} (given : Given P) where
  abbrev pub ActionKnown : SigAction → Type 0
  ActionKnown action.Kill = Unit {0}
  ActionKnown action.Ignore = Unit {0}
  ActionKnown (action.Handler h) = given.Handles h

  abbrev pub UnitKnown : Thread P → units.Unit → Type 0
  UnitKnown th (unit.Make c) = given.Known th c
  UnitKnown th other = Unit {0}

  -- a request acts, or the condition wait that was cancelled is over
  abbrev pub Cancels : Thread P → Type 0
  Cancels th = (request_acts th ≡ true) ⊎ ((k : ℕ) × given.Waits (for_mutex_again k cond_end.Cancelled))

  -- why a thread is ending: it called for that, or is cancelled
  abbrev pub MayEnd : Thread P → Type 0
  MayEnd th = ((v : Operand) × given.Known th (call.Exit v)) ⊎ Cancels th

-- ---- the changes of a thread at an instant

-- a law that survives each of them
pub record Closed {P : Type 0} (given : Given P) (Q : ℕ → ℕ → Thread P → Type 0) : Type 0 where
  pub answers : (now u : ℕ) (th : Thread P) (result : Res) (value : ℕ) → Q now u th → Q now u (answered result value th)
  pub wakes : (now u : ℕ) (th : Thread P) (result : Res) (value : ℕ) → Q now u th → Q now u (woken result value th)
  -- a wait is that of a known call, or that for the mutex of a condition wait, which is over
  pub waits : (now u : ℕ) (th caller : Thread P) (w : Waiting) → given.Known caller w.call → MakesWait w.call w.wait → Q now u th → Q now u (put_to_wait w th)
  pub again : (now u : ℕ) (th : Thread P) (w : Waiting) (c k : ℕ) (how : CondEnd) → given.Waits (for_condition c k) → (how ≡ cond_end.Cancelled → Cancels given th) → w.wait ≡ for_mutex_again k how →
      Q now u th → Q now u (put_to_wait w th)
  pub waiting : (now u : ℕ) (th : Thread P) (w : Waiting) → Q now u th → waiting_in th.status ≡ Some w → given.Waits w.wait
  -- the tick at which its wait ends moves as CLOCK_REALTIME is set
  pub moves : (now u : ℕ) (th : Thread P) (move : ℕ → ℕ) → Q now u th → Q now u (thread_moved move th)
  pub starts : (now u : ℕ) (th : Thread P) (mask : ℕ) → u < given.count → Q now u th → Q now u (started given.bodies u mask now th)
  -- its server is activated, refilled, or plans a replenishment
  pub activates : (now u : ℕ) (th : Thread P) → Q now u th → Q now u (with_server (activate now) th)
  pub refills : (now u : ℕ) (th : Thread P) → Q now u th → Q now u (with_server refill th)
  pub plans : (now u : ℕ) (th : Thread P) → Q now u th → Q now u (with_server plan th)
  -- another thread may have called for a new priority or policy
  pub prices : (now u : ℕ) (th caller : Thread P) (p : ℕ) → given.Known caller (call.Setprio u p) → Q now u th → Q now u (with_priority p th)
  pub renews : (now u : ℕ) (th caller : Thread P) (new : Policy) → given.Known caller (call.Setsched u new) → Q now u th → Q now u (with_policy new now th)
  pub slices : (now u : ℕ) (th : Thread P) → Q now u th → Q now u (without_slice th)
  -- another thread may have called to join it, and may have been told its end, or may have left it
  pub joins : (now u : ℕ) (th caller : Thread P) (joiner : Joiner) → given.Known caller (call.Join u) → Q now u th → Q now u (with_joiner joiner th)
  pub joined : (now u : ℕ) (th : Thread P) (t : ℕ) → th.joiner ≡ waits_to_join t → Q now u th → Q now u (with_joiner has_joined th)
  pub unjoins : (now u : ℕ) (th : Thread P) → Q now u th → Q now u (with_joiner nobody th)
  -- signals and cancellation
  pub masks : (now u : ℕ) (th : Thread P) (mask : ℕ) → Q now u th → Q now u (record th { mask = mask })
  pub requests : (now u : ℕ) (th caller : Thread P) → given.Known caller (call.Cancel u) → Q now u th → Q now u (requested th)
  pub enables : (now u : ℕ) (th : Thread P) (on : Bool) → given.Known th (call.Setcancel on) → Q now u th → Q now u (record th { is_enabled = on })
  pub pushes : (now u : ℕ) (th : Thread P) (c : ℕ) → given.Known th (call.Push c) → Q now u th → Q now u (record th { cleanups = c ∷ th.cleanups })
  pub pops : (now u : ℕ) (th : Thread P) (runs : Bool) → given.Known th (call.Pop runs) → Q now u th →
      Q now u (runs_cleanup_if runs given.bodies th.cleanups (answered res.Zero 0 (without_cleanup th)))
  pub catches : (now u : ℕ) (th : Thread P) (h value : ℕ) → given.Handles h → catches_signal th ≡ false → Q now u th →
      Q now u (on_top (new_frame given.bodies frame.Signal (body_of.Handler h) (capped value)) th)
  -- a frame ends, or the thread
  pub leaves : (now u : ℕ) (th : Thread P) → is_main (top_kind th.frames) ≡ false → Q now u th → Q now u (without_top th)
  pub ending : (now u : ℕ) (th : Thread P) (value : ℕ) → MayEnd given th → Q now u th → Q now u (ending_with value th)
  pub ends : (now u : ℕ) (th : Thread P) → top_kind th.frames ≡ frame.Main → Q now u th → Q now u (without_life th)
  -- a thread may have asked a queue for a signal; and a record becomes pending
  pub notifies : (caller : Thread P) (q signal : ℕ) (value : Operand) → given.Known caller (call.MqNotify q signal value) → given.Sends signal
  pub pends : (r : SignalRecord) (serial : ℕ) → IsSourced r → given.Pends (record r { serial = serial })

-- From one law to another, by a tick that is given to that thread or to none: its unit makes only calls that it may make.
pub record Passes {P : Type 0} (given : Given P) (Q R : ℕ → ℕ → Thread P → Type 0) (to : Option ℕ) : Type 0 where
  pub rests : (now u : ℕ) (th : Thread P) → is to u ≡ false → Q now u th → R (now + 1) u th
  pub runs : (now t : ℕ) (th : Thread P) → to ≡ Some t → Q now t th → R (now + 1) t (tick_charged (in_unit given.bodies th).thread)
  pub known : (now t : ℕ) (th : Thread P) → to ≡ Some t → Q now t th → UnitKnown given (tick_charged (in_unit given.bodies th).thread) (in_unit given.bodies th).unit

-- a law that survives runs
pub record Lasts {P : Type 0} (given : Given P) (Q : ℕ → ℕ → Thread P → Type 0) : Type 0 where
  pub closed : Closed given Q
  pub passes : (to : Option ℕ) → Passes given Q Q to
