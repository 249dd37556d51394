-- What is known of what threads wait for, of what each signal does and of where records come from lasts through a run whose calls name
-- what there is.
use Rattle.std.proofs.Common.{◌≡◌, ◌<◌, ℕ, zero, suc, List, [], ◌∷◌, Bool, true, false, Option, None, Some, length, refl, subst, sym}
use Rattle.std.specs.Prelude.{filter_map, map, slice_index_or}
use Rattle.std.proofs.lemmas.List.{length-map}
use Rattle.words_script.specs.declared.call.Call.{Call}
use Rattle.words_script.specs.declared.call.Call.TheVariants as call
use Rattle.words_script.specs.declared.decl.Decl.{Decl}
use Rattle.words_script.specs.declared.decl.Decl.TheVariants as decl
use Rattle.words_script.specs.declared.decl.Kind.TheVariants as kind
use Rattle.words_script.specs.declared.decl.Script.{Script}
use Rattle.rules_bodies.specs.declared.cursor.Cursor.{Cursor}
use Rattle.rules_bodies.specs.declared.op.Op.{Op}
use Rattle.rules_bodies.specs.declared.unit.Unit as unit_type
use Rattle.rules_bodies.specs.declared.unit.Unit.TheVariants as unit
use Rattle.rules_bodies.specs.Flat as flat
use Rattle.rules_bodies.specs.Fetch.{ops_of}
use Rattle.rules_machine.specs.declared.signal.SigAction.{SigAction}
use Rattle.rules_machine.specs.declared.signal.SigAction.TheVariants as action
use Rattle.rules_machine.specs.Declarations.{ThreadDecl, handlers_of, named, queue_kind, threads_of, timer_kind}
use Rattle.rules_machine.specs.Runs.{opening, thread_opened}
use Rattle.rules_machine.specs.Clock.{status_moved}
use Rattle.rules_machine.specs.State.{Frame, Machine, Queue, Registration, Status, Thread, Timer, Wait, Waiting, blocked, dormant, ended, for_room, runnable}
use Rattle.rules_machine.specs.Threads.{action_of, no_queue, no_thread, no_timer, queue_at, thread_at, timer_at, waiting_in}
use Rattle.rules_machine.specs.Cancellation.{runs_cleanup_if}
use Rattle.rules_machine.specs.Ticks.{tick_charged}
use Rattle.rules_machine.specs.Turns.{turn_of}
use Rattle.rules_machine.specs.Units.{Following, advances, advancing, begins_finish, cleaning_up, continuing, finishing, following, in_cleanup, in_unit, takes_unit}
use Rattle.rules_machine.specs.Throughout.{after_items}
use Rattle.rules_moves.proofs.Waiters.Best.{Each}
use Rattle.laws_machine.proofs.Servers.Units.{kept_in_unit}
use Rattle.rules_flat_code.specs.EachCall.{EachMade}
use Rattle.rules_flat_code.specs.FlatBodies.{code_of, flat_bodies}
use Rattle.rules_flat_code.specs.KnownCalls.{Objects, objects_of}
use Rattle.rules_flat_code.specs.Placed.{cursor_of}
use Rattle.rules_flat_code.specs.Runnable.{CallIsRunnable, HasSignal, IsRunnable}
use Rattle.laws_threads.specs.EachThread.{ActionKnown, Closed, Given, IsSourced, Lasts, MakesWait, UnitKnown}
use Rattle.laws_threads.specs.Placeable.{IsPlaceable}
use Rattle.laws_threads.proofs.Begins.{actions_known}
use Rattle.laws_threads.proofs.Changes.{Holds, at_all}
use Rattle.laws_threads.proofs.MadeCalls.{UnitMakes, all_made, fetched_makes}
use Rattle.laws_threads.proofs.Objects.{NotifiesKnown}
use Rattle.laws_threads.proofs.Runs.{holds_throughout}
use Rattle.kernel_state.specs.Caught.{CatchesBy}
use Rattle.kernel_wakes.specs.Waits.{KnowsMutex, WaitKnowsMutex}
use Rattle.kernel_wakes.specs.Joins.{EndIsKnown}
use Rattle.laws_kernel.proofs.Members.{at_any, at_number, each_of}

-- ---- what is known

abbrev pub EndsAreKnown : ℕ → Option Waiting → Type 0
EndsAreKnown threads None = Unit {0}
EndsAreKnown threads (Some w) = EndIsKnown threads w.wait

-- a sender waits for room in a queue that is there, with a message of a priority that there is
abbrev pub RoomIsKnown : ℕ → Wait → Type 0
RoomIsKnown queues (for_room q x) = (q < queues) × (x.priority < 32)
RoomIsKnown queues wait = Unit {0}

abbrev pub RoomsAreKnown : ℕ → Option Waiting → Type 0
RoomsAreKnown queues None = Unit {0}
RoomsAreKnown queues (Some w) = RoomIsKnown queues w.wait

pub record IsHeldBy (o : Objects) (wait : Option Waiting) : Type 0 where
  pub waits : WaitKnowsMutex o.mutexes wait
  pub ends : EndsAreKnown o.threads wait
  pub rooms : RoomsAreKnown o.queues wait

abbrev pub IsHeld : Objects → Thread Cursor → Type 0
IsHeld o th = IsHeldBy o (waiting_in th.status)

-- of all threads, and of the parts of a machine that signals come from and go to, with so many handlers
pub record Held (o : Objects) (handlers : ℕ) (m : Machine Cursor) : Type 0 where
  pub each : (t : ℕ) → IsHeld o (thread_at m t)
  pub counted : length m.threads ≡ o.threads
  pub caught : (signal : ℕ) → CatchesBy handlers (action_of m signal)
  pub timed : (k : ℕ) → k < length m.timers → (timer_at m k).signal < 32
  pub registered : (q : ℕ) (r : Registration) → (queue_at m q).registration ≡ Some r → r.signal < 32
  pub sourced : Each IsSourced m.pending

-- ---- what calls wait for

record WaitIsHeld (o : Objects) (x : Wait) : Type 0 where
  pub mutex : KnowsMutex o.mutexes x
  pub end : EndIsKnown o.threads x
  pub room : RoomIsKnown o.queues x

call_wait : (o : Objects) (c : Call) (x : Wait) → CallIsRunnable o c → MakesWait c x → WaitIsHeld o x
call_wait o (call.Join u) x is e = subst (WaitIsHeld o) (sym e) (record { mutex = tt; end = is.objects; room = tt })
call_wait o (call.Lock k) x is e = subst (WaitIsHeld o) (sym e) (record { mutex = tt; end = tt; room = tt })
call_wait o (call.Timedlock k at) x is e = subst (WaitIsHeld o) (sym e) (record { mutex = tt; end = tt; room = tt })
call_wait o (call.Trylock k) x is e = subst (WaitIsHeld o) (sym e) (record { mutex = tt; end = tt; room = tt })
call_wait o (call.Wait c k) x is e = subst (WaitIsHeld o) (sym e) (record { mutex = is.objects; end = tt; room = tt })
call_wait o (call.Timedwait c k at) x is e = subst (WaitIsHeld o) (sym e) (record { mutex = is.objects.0; end = tt; room = tt })
call_wait o (call.SemWait k) x is e = subst (WaitIsHeld o) (sym e) (record { mutex = tt; end = tt; room = tt })
call_wait o (call.SemTimedwait k at) x is e = subst (WaitIsHeld o) (sym e) (record { mutex = tt; end = tt; room = tt })
call_wait o (call.Nanosleep n) x is e = subst (WaitIsHeld o) (sym e) (record { mutex = tt; end = tt; room = tt })
call_wait o (call.ClockNanosleep at) x is e = subst (WaitIsHeld o) (sym e) (record { mutex = tt; end = tt; room = tt })
call_wait o (call.Sigwaitinfo set) x is e = subst (WaitIsHeld o) (sym e) (record { mutex = tt; end = tt; room = tt })
call_wait o (call.Sigtimedwait set n) x is e = subst (WaitIsHeld o) (sym e) (record { mutex = tt; end = tt; room = tt })
call_wait o (call.MqSend q len p v) x is e = subst (WaitIsHeld o) (sym e.1) (record { mutex = tt; end = tt; room = (is.objects.0, subst (λ (n : ℕ). n < 32) (sym e.2) is.objects.1) })
call_wait o (call.MqTimedsend q len p v at) x is e = subst (WaitIsHeld o) (sym e.1) (record { mutex = tt; end = tt; room = (is.objects.0, subst (λ (n : ℕ). n < 32) (sym e.2) is.objects.1) })
call_wait o (call.MqReceive q) x is e = subst (WaitIsHeld o) (sym e) (record { mutex = tt; end = tt; room = tt })
call_wait o (call.MqTimedreceive q at) x is e = subst (WaitIsHeld o) (sym e) (record { mutex = tt; end = tt; room = tt })
call_wait o _ x is e = absurd e

-- ---- changes of a thread

run_status : {P : Type 0} (bodies : _) (runs : Bool) (us : List ℕ) (th : Thread P) → (runs_cleanup_if runs bodies us th).status ≡ th.status
run_status bodies true [] th = refl
run_status bodies true (u ∷ us) th = refl
run_status bodies false us th = refl

module _ (o : Objects) (code : flat.NumberedBodies (List Op)) (calls : (n : ℕ) → EachMade (CallIsRunnable o) (ops_of code n)) where
  -- ---- the unit that a thread is in

  makes_next : (fs : List (Frame Cursor)) (th : Thread Cursor) → UnitMakes (CallIsRunnable o) (advances (flat_bodies code) fs th).unit
  makes_next [] th = tt
  makes_next (f ∷ fs) th = fetched_makes (CallIsRunnable o) code (cursor_of f) (calls f.place.body)

  makes_finish : (fs : List (Frame Cursor)) (th : Thread Cursor) → UnitMakes (CallIsRunnable o) (begins_finish fs th).unit
  makes_finish [] th = tt
  makes_finish (f ∷ fs) th = tt

  -- it makes only calls that name what there is
  pub unit_makes : (th : Thread Cursor) → UnitMakes (CallIsRunnable o) (in_unit (flat_bodies code) th).unit
  unit_makes th = by_case (following th)
    where
      by_case : (x : Following) → UnitMakes (CallIsRunnable o) (takes_unit (flat_bodies code) x th).unit
      by_case (continuing left) = tt
      by_case advancing = makes_next th.frames th
      by_case (cleaning_up u) = makes_next (in_cleanup (flat_bodies code) u th).frames (in_cleanup (flat_bodies code) u th)
      by_case finishing = makes_finish th.frames th

module _ (o : Objects) (handlers : ℕ) (code : flat.NumberedBodies (List Op)) (calls : (n : ℕ) → EachMade (CallIsRunnable o) (ops_of code n)) where
  abbrev pub of_calls : Given Cursor
  of_calls = record {
    bodies = flat_bodies code;
    count = o.threads;
    Handles = λ h. h < handlers;
    Known = λ th c. CallIsRunnable o c;
    Waits = λ w. Unit {0};
    Sends = λ signal. signal < 32;
    Pends = λ r. IsSourced r;
  }

  abbrev HeldNow : ℕ → ℕ → Thread Cursor → Type 0
  HeldNow now u th = IsHeld o th

  held_by : (s r : Status) → r ≡ s → IsHeldBy o (waiting_in s) → IsHeldBy o (waiting_in r)
  held_by s r e q = subst (λ (x : Status). IsHeldBy o (waiting_in x)) (sym e) q

  held_moved : (move : ℕ → ℕ) (status : Status) → IsHeldBy o (waiting_in status) → IsHeldBy o (waiting_in (status_moved move status))
  held_moved move (dormant at) q = q
  held_moved move runnable q = q
  held_moved move (blocked w) q = record { waits = q.waits; ends = q.ends; rooms = q.rooms }
  held_moved move ended q = q

  asleep : (w : Waiting) → WaitIsHeld o w.wait → IsHeldBy o (Some w)
  asleep w h = record { waits = h.mutex; ends = h.end; rooms = h.room }

  held_closed : Closed of_calls HeldNow
  held_closed = record {
    answers = λ now u th r value q. q;
    wakes = λ now u th r value q. record { waits = tt; ends = tt; rooms = tt };
    waits = λ now u th caller w known makes q. asleep w (call_wait o w.call w.wait known makes);
    again = λ now u th w c k how waits may is q. asleep w (subst (WaitIsHeld o) (sym is) (record { mutex = tt; end = tt; room = tt }));
    waiting = λ now u th w q is. tt;
    moves = λ now u th move q. held_moved move th.status q;
    starts = λ now u th mask lt q. record { waits = tt; ends = tt; rooms = tt };
    activates = λ now u th q. q;
    refills = λ now u th q. q;
    plans = λ now u th q. q;
    prices = λ now u th caller p known q. q;
    renews = λ now u th caller new known q. q;
    slices = λ now u th q. q;
    joins = λ now u th caller joiner known q. q;
    joined = λ now u th t is q. q;
    unjoins = λ now u th q. q;
    masks = λ now u th mask q. q;
    requests = λ now u th caller known q. q;
    enables = λ now u th on known q. q;
    pushes = λ now u th c known q. q;
    pops = λ now u th runs known q. held_by th.status _ (run_status (flat_bodies code) runs th.cleanups _) q;
    catches = λ now u th h value known free q. q;
    leaves = λ now u th inner q. q;
    ending = λ now u th value may q. q;
    ends = λ now u th main q. record { waits = tt; ends = tt; rooms = tt };
    notifies = λ caller q signal value known. known.objects.1;
    pends = λ r serial from. from;
  }

  unit_known : (th : Thread Cursor) (u : unit_type.Unit) → UnitMakes (CallIsRunnable o) u → UnitKnown of_calls th u
  unit_known th (unit.Run k) makes = tt
  unit_known th (unit.Make c) makes = makes
  unit_known th unit.Jump makes = tt
  unit_known th unit.Finish makes = tt

  held_lasts : Lasts of_calls HeldNow
  held_lasts = record {
    closed = held_closed;
    passes = λ to. record {
      rests = λ now u th e q. q;
      runs = λ now t th e q. held_by th.status _ (kept_in_unit (flat_bodies code) (λ (x : Thread Cursor). x.status) (λ fs x. refl) (λ x. refl) th) q;
      known = λ now t th e q. unit_known (tick_charged (in_unit (flat_bodies code) th).thread) (in_unit (flat_bodies code) th).unit (unit_makes o code calls th);
    };
  }

  -- ---- runs

  caught_by : (a : SigAction) → ActionKnown of_calls a → CatchesBy handlers a
  caught_by action.Kill known = tt
  caught_by action.Ignore known = tt
  caught_by (action.Handler h) known = known

  pub held_throughout : (n most : ℕ) (m : Machine Cursor) → Holds of_calls HeldNow (turn_of m) → Held o handlers (after_items (flat_bodies code) m n most)
  held_throughout n most start h =
      let m = after_items (flat_bodies code) start n most in
      let lasts = holds_throughout of_calls HeldNow held_lasts n most start h in
      record {
        each = at_all (λ u th. IsHeld o th) no_thread m.threads lasts.each (λ u. record { waits = tt; ends = tt; rooms = tt });
        counted = lasts.counted;
        caught = λ signal. caught_by (action_of m signal) (lasts.handled signal);
        timed = λ k lt. at_number (λ (x : Timer). x.signal < 32) no_timer m.timers k lasts.objects.of_timers lt;
        registered = λ q. at_any (λ (x : Queue). (r : Registration) → x.registration ≡ Some r → r.signal < 32) no_queue m.queues q (λ r e. absurd cc) lasts.objects.of_queues;
        sourced = lasts.objects.of_records;
      }

-- ---- the beginning

nothing_yet : (o : Objects) (ds : List ThreadDecl) (t : ℕ) → IsHeld o (slice_index_or (map (thread_opened {P = Cursor}) ds) t no_thread)
nothing_yet o [] t = record { waits = tt; ends = tt; rooms = tt }
nothing_yet o (d ∷ ds) zero = record { waits = tt; ends = tt; rooms = tt }
nothing_yet o (d ∷ ds) (suc t) = nothing_yet o ds t

-- a timer sends what it is declared with
timers_send : (ds : List Decl) → Each HasSignal ds → Each (λ (k : Timer). k.signal < 32) (filter_map (named timer_kind) ds)
timers_send [] h = tt
timers_send (decl.Named name (kind.Timer signal value real) ∷ ds) h = (h.0, timers_send ds h.1)
timers_send (d ∷ ds) h = timers_send ds h.1

-- and no queue has a registration
queues_quiet : {P : Type 0} (given : Given P) (ds : List Decl) → Each (NotifiesKnown given) (filter_map (named queue_kind) ds)
queues_quiet given [] = tt
queues_quiet given (decl.Named name (kind.Queue depth longest nonblock) ∷ ds) = (λ r e. absurd cc, queues_quiet given ds)
queues_quiet given (d ∷ ds) = queues_quiet given ds

module _ (script : Script) (ok : IsRunnable script) where
  pub calls_known : (n : ℕ) → EachMade (CallIsRunnable (objects_of script)) (ops_of (code_of script) n)
  calls_known n = all_made (CallIsRunnable (objects_of script)) (flat.bodies_of script.decls).all n ok.calls

  pub held_after : IsPlaceable script → (n most : ℕ) → Held (objects_of script) (length (handlers_of script)) (after_items (flat_bodies (code_of script)) (opening script) n most)
  held_after place n most =
      let given = of_calls (objects_of script) (length (handlers_of script)) (code_of script) calls_known in
      held_throughout (objects_of script) (length (handlers_of script)) (code_of script) calls_known n most (opening script) (record {
        each = λ u lt. nothing_yet (objects_of script) (threads_of script) u;
        counted = length-map (threads_of script) (thread_opened {P = Cursor});
        handled = actions_known given script place (λ h lt. lt);
        objects = record { of_timers = timers_send script.decls (each_of HasSignal script.decls ok.signals); of_queues = queues_quiet given script.decls; of_records = tt };
      })
