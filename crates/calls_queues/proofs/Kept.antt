-- What a notification counts on stays as a queue changes, a call returns and a thread wakes.
use Rattle.std.proofs.Common.{◌≡◌, ◌∙◌, ◌++◌, ◌∷◌, [], ℕ, Bool, true, false, List, Option, None, Some, ap, arith, refl, subst, sym}
use Rattle.std.specs.Prelude.{◌==◌}
use Rattle.words_numbers.specs.declared.res.Res.{Res}
use Rattle.words_trace.specs.declared.event.Event.TheVariants as event
use Rattle.rules_bodies.specs.declared.cursor.Cursor.{Cursor}
use Rattle.rules_server.specs.Server.{ServerState, activate}
use Rattle.rules_machine.specs.CallNames.{name_of}
use Rattle.rules_machine.specs.Queues.{with_message}
use Rattle.rules_machine.specs.Servers.{activates_server, at_once, high_server, with_server}
use Rattle.rules_machine.specs.State.{Machine, Message, Queue, Registration, Status, Thread, blocked, dormant, ended, runnable}
use Rattle.rules_machine.specs.Threads.{can_run, is_blocked, is_runnable, no_queue, queue_at, thread_at, waiting_of}
use Rattle.rules_machine.specs.Turns.{Turn, changes, changes_queue, moves, tells, with_queue}
use Rattle.rules_machine.specs.Waking.{call_in, wakes, woken}
use Rattle.rules_machine.proofs.Reading.{changed-keeps, thread-other}
use Rattle.rules_moves.proofs.Calls.Commuting.{wakes_telling_part, woken_runs}
use Rattle.kernel_threads.specs.Unused.{IsUnused}
use Rattle.kernel_state.specs.Caught.{HasRoomToPend}
use Rattle.kernel_state.specs.Kernel.{Kernel, after, turn}
use Rattle.kernel_state.specs.Callers.{AllRest}
use Rattle.calls_queues.specs.Premises.{CanNotify}

-- ---- a queue changes

changed_can : (q : ℕ) (f : Queue → Queue) → ((x : Queue) → (f x).registration ≡ x.registration) → (k l : Kernel) → l ≡ after (changes_queue q f) k → CanNotify k.machine q → CanNotify l.machine q
changed_can q f kept k l e h = subst (λ (x : Kernel). CanNotify x.machine q) (sym e) after_it
  where
    same : (queue_at (with_queue q f k.machine) q).registration ≡ (queue_at k.machine q).registration
    same = changed-keeps no_queue q q f (λ (x : Queue). x.registration) kept k.machine.queues

    pends : (r : Registration) → (queue_at (with_queue q f k.machine) q).registration ≡ Some r → HasRoomToPend (with_queue q f k.machine)
    pends r e = let x = h.pends r (sym same ∙ e) in record { few = x.few; youngest = x.youngest }

    after_it : CanNotify (with_queue q f k.machine) q
    after_it = record { signal = λ r e. h.signal r (sym same ∙ e); pends = pends; rests = h.rests; serial = h.serial; early = h.early }

pub put_can : (q : ℕ) (x : Message) (k l : Kernel) → l ≡ after (changes_queue q (with_message x)) k → CanNotify k.machine q → CanNotify l.machine q
put_can q x k l e h = changed_can q (with_message x) (λ y. refl) k l e h

-- ---- a thread wakes

runs_unblocked : (status : Status) → is_runnable status ≡ true → is_blocked status ≡ false
runs_unblocked (dormant at) e = refl
runs_unblocked runnable e = refl
runs_unblocked (blocked w) e = absurd cc
runs_unblocked ended e = refl

not_both : {X : Type 0} (b : Bool) → b ≡ false → b ≡ true → X
not_both b off on = let a : true ≡ false = sym on ∙ off in absurd cc

same_number : (t u : ℕ) → (t == u) ≡ true → t ≡ u
same_number t u e = grind arith

activated_other : (t u : ℕ) (o : Option ServerState) (s : Turn Cursor) → (t == u) ≡ false → thread_at (activates_server t o s).machine u ≡ thread_at s.machine u
activated_other t u None s other = refl
activated_other t u (Some server) s other = thread-other s.machine t u (with_server (activate s.machine.now)) other

activated_direct : (t : ℕ) (o : Option ServerState) (s : Turn Cursor) → (activates_server t o s).direct ≡ s.direct
activated_direct t None s = refl
activated_direct t (Some server) s = refl

module _ (t : ℕ) (r : Res) (value : ℕ) (s : Turn Cursor) where
  abbrev up : Turn Cursor
  up = tells (event.Return t (name_of (call_in (waiting_of s.machine t))) r value) (moves t (changes t (woken r value) s))

  woken_thread : (u : ℕ) → (t == u) ≡ false → thread_at (wakes t r value s).machine u ≡ thread_at s.machine u
  woken_thread u other = activated_other t u (at_once (high_server (thread_at up.machine t).server)) up other ∙ thread-other s.machine t u (woken r value) other

  woken_direct : (wakes t r value s).direct ≡ s.direct ++ t ∷ []
  woken_direct = activated_direct t (at_once (high_server (thread_at up.machine t).server)) up

  abbrev after_it : Machine Cursor
  after_it = (wakes t r value s).machine

  woken_rests : is_blocked (thread_at s.machine t).status ≡ true → AllRest s.machine → AllRest after_it
  woken_rests waits rests u on = by_thread (t == u) refl
    where
      runs : can_run after_it t ≡ true
      runs = woken_runs (event.Return t (name_of (call_in (waiting_of s.machine t))) r value) t r value s waits

      by_thread : (b : Bool) → (t == u) ≡ b → IsUnused (thread_at after_it u).server
      by_thread true it = not_both (is_blocked (thread_at after_it t).status) (runs_unblocked (thread_at after_it t).status runs) (subst (λ (i : ℕ). is_blocked (thread_at after_it i).status ≡ true) (sym (same_number t u it)) on)
      by_thread false other =
          let same = woken_thread u other in
          subst (λ (th : Thread Cursor). IsUnused th.server) (sym same) (rests u (sym (ap (λ (th : Thread Cursor). is_blocked th.status) same) ∙ on))

  woken_part : {X : Type 0} (part : Machine Cursor → X) → ((m : Machine Cursor) (threads : List (Thread Cursor)) → part (record m { threads = threads }) ≡ part m) → part after_it ≡ part s.machine
  woken_part part h = wakes_telling_part part h (event.Return t (name_of (call_in (waiting_of s.machine t))) r value) t r value s

  woken_pends : HasRoomToPend s.machine → HasRoomToPend after_it
  woken_pends h =
      let pending : after_it.pending ≡ s.machine.pending = woken_part (λ m. m.pending) (λ m threads. refl) in
      let serial : after_it.next_serial ≡ s.machine.next_serial = woken_part (λ m. m.next_serial) (λ m threads. refl) in
      record { few = rw pending h.few; youngest = rw (pending, serial) h.youngest }

  woken_notifies : (q : ℕ) → is_blocked (thread_at s.machine t).status ≡ true → CanNotify s.machine q → CanNotify after_it q
  woken_notifies q waits h =
      let asked : (queue_at after_it q).registration ≡ (queue_at s.machine q).registration = woken_part (λ m. (queue_at m q).registration) (λ m threads. refl) in
      let serial : after_it.next_serial ≡ s.machine.next_serial = woken_part (λ m. m.next_serial) (λ m threads. refl) in
      let now : after_it.now ≡ s.machine.now = woken_part (λ m. m.now) (λ m threads. refl) in
      record {
        signal = λ x e. h.signal x (sym asked ∙ e);
        pends = λ x e. woken_pends (h.pends x (sym asked ∙ e));
        rests = woken_rests waits h.rests;
        serial = rw serial h.serial;
        early = rw now h.early;
      }

pub woken_can : (t : ℕ) (r : Res) (value q : ℕ) (k l : Kernel) → l ≡ after (wakes t r value) k → is_blocked (thread_at k.machine t).status ≡ true → CanNotify k.machine q → CanNotify l.machine q
woken_can t r value q k l e waits h = subst (λ (x : Kernel). CanNotify x.machine q) (sym e) (woken_notifies t r value (turn k) q waits h)
