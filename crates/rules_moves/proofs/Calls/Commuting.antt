-- What a waking leaves as it is, and changes that may come in either order.
use Rattle.std.proofs.Common.{Bool, List, None, Option, Some, [], ap, arith, false, length, refl, suc, true, zero, ℕ, ◌+◌, ◌<◌, ◌∷◌, ◌≡◌}
use Rattle.std.specs.Option.{option_map}
use Rattle.std.specs.Prelude.{map, ◌==◌}
use mathlib.Core.Path.{◌∙◌}
use Rattle.words_numbers.specs.declared.res.Res.{Res}
use Rattle.words_numbers.specs.declared.res.Res.TheVariants as res
use Rattle.words_trace.specs.declared.event.Event.{Event}
use Rattle.words_trace.specs.declared.event.Event.TheVariants as event
use Rattle.rules_server.specs.Server.{ServerState, activate}
use Rattle.rules_machine.specs.declared.thread.CondEnd.{CondEnd}
use Rattle.rules_machine.specs.declared.thread.CondEnd.TheVariants as cond_end
use Rattle.rules_machine.specs.Clock.{moved_if, status_moved, thread_moved, waits_on_real}
use Rattle.rules_machine.specs.Lists.{changed_at}
use Rattle.rules_machine.specs.State.{Frame, Machine, Mutex, Status, Thread, Wait, blocked, dormant, ended, for_mutex_again, runnable}
use Rattle.rules_machine.specs.Threads.{can_run, is_blocked, is_runnable, no_thread, thread_at, top_result, top_value, waiting_in, waiting_of}
use Rattle.rules_machine.specs.CallNames.{name_of}
use Rattle.rules_machine.specs.Turns.{Caller, Turn, answered, changes, changes_mutex, frames_answered, moves, tells}
use Rattle.rules_machine.specs.Servers.{activates_if_high, activates_server, at_once, high_server, with_server}
use Rattle.rules_machine.specs.Waking.{blocks, call_in, cancelled_value, ending_with, last_result, last_value, put_to_wait, wakes, wakes_telling, woken}
use Rattle.rules_machine.specs.Mutexes.{returns_from_wait, wakes_owner}
use Rattle.rules_machine.proofs.Reading.{changed-keeps, thread-other, thread-same}
use Rattle.rules_moves.specs.Moves.{at_some_time, core_of, shape_of, Shape}
use Rattle.rules_moves.proofs.Waiters.Best.{blocked_within}

-- ---- an answer changes nothing that others go by

answered_shapes : {P : Type 0} (r : Res) (v : ℕ) (fs : List (Frame P)) → map shape_of (frames_answered r v fs) ≡ map shape_of fs
answered_shapes r v [] = refl
answered_shapes r v (f ∷ fs) = refl

pub answered_core : {P : Type 0} (r : Res) (v : ℕ) (th : Thread P) → core_of (answered r v th) ≡ core_of th
answered_core {P} r v th = ap (λ (shapes : List (Shape P)). record (core_of th) { shapes = shapes }) (answered_shapes r v th.frames)

-- and neither does the time of a wait
pub moved_core : {P : Type 0} (move : ℕ → ℕ) (th : Thread P) → core_of (thread_moved move th) ≡ core_of th
moved_core {P} move th = by_status th.status
  where
    same_time : (b : Bool) (due : Option ℕ) → option_map {U = ℕ} (λ (due : ℕ). 0) (moved_if b move due) ≡ option_map {U = ℕ} (λ (due : ℕ). 0) due
    same_time true None = refl
    same_time true (Some due) = refl
    same_time false due = refl

    by_status : (status : Status) → record (core_of th) { status = at_some_time (status_moved move status) } ≡ record (core_of th) { status = at_some_time status }
    by_status (dormant at) = refl
    by_status runnable = refl
    by_status (blocked w) = ap (λ (due : Option ℕ). record (core_of th) { status = blocked (record w { due = due }) }) (same_time (waits_on_real w.call) w.due)
    by_status ended = refl

-- a change that leaves what others go by leaves the status
pub status_kept : {P : Type 0} (t u : ℕ) (f : Thread P → Thread P) → ((th : Thread P) → (f th).status ≡ th.status) → (s : Turn P) →
    (thread_at (changes t f s).machine u).status ≡ (thread_at s.machine u).status
status_kept t u f h s = changed-keeps no_thread t u f (λ th. th.status) h s.machine.threads

-- ---- a waking wakes

activates_status : {P : Type 0} (t u : ℕ) (o : Option ServerState) (s : Turn P) → (thread_at (activates_server t o s).machine u).status ≡ (thread_at s.machine u).status
activates_status t u None s = refl
activates_status t u (Some server) s = status_kept t u (with_server (activate s.machine.now)) (λ th. refl) s

pub woken_runs : {P : Type 0} (e : Event) (t : ℕ) (r : Res) (v : ℕ) (s : Turn P) → is_blocked (thread_at s.machine t).status ≡ true →
    can_run (wakes_telling e t r v s).machine t ≡ true
woken_runs e t r v s b =
    let up = tells e (moves t (changes t (woken r v) s)) in
    let within : t < length s.machine.threads = blocked_within s.machine.threads t b in
    ap is_runnable (activates_status t t (at_once (high_server (thread_at up.machine t).server)) up ∙ ap (λ th. th.status) (thread-same s.machine t (woken r v) within))

pub woken_other : {P : Type 0} (e : Event) (t u : ℕ) (r : Res) (v : ℕ) (s : Turn P) → (t == u) ≡ false →
    (thread_at (wakes_telling e t r v s).machine u).status ≡ (thread_at s.machine u).status
woken_other e t u r v s h =
    let up = tells e (moves t (changes t (woken r v) s)) in
    activates_status t u (at_once (high_server (thread_at up.machine t).server)) up ∙ ap (λ th. th.status) (thread-other s.machine t u (woken r v) h)

-- ---- a mutex changes before or after

module _ {P : Type 0} (k : ℕ) (f : Mutex → Mutex) where
  abbrev pub PassesMutex : (Turn P → Turn P) → Type 0
  PassesMutex effect = (s : Turn P) → effect (changes_mutex k f s) ≡ changes_mutex k f (effect s)

  activates_passes : (t : ℕ) (o : Option ServerState) → PassesMutex (activates_server t o)
  activates_passes t None s = refl
  activates_passes t (Some server) s = refl

  pub wakes_telling_passes : (e : Event) (t : ℕ) (r : Res) (v : ℕ) → PassesMutex (wakes_telling e t r v)
  wakes_telling_passes e t r v s =
      let up = tells e (moves t (changes t (woken r v) s)) in
      activates_passes t (at_once (high_server (thread_at up.machine t).server)) up

  pub returns_from_wait_passes : (how : CondEnd) (t : ℕ) → PassesMutex (returns_from_wait how t)
  returns_from_wait_passes cond_end.Signalled t s = wakes_telling_passes _ t res.Zero 0 s
  returns_from_wait_passes cond_end.Timedout t s = wakes_telling_passes _ t res.Timedout 0 s
  returns_from_wait_passes cond_end.Cancelled t s = ap (changes t (ending_with cancelled_value)) (wakes_telling_passes (event.Cancel t) t (last_result t s.machine) (last_value t s.machine) s)

  pub wakes_owner_passes : (wait : Wait) (t : ℕ) → PassesMutex (wakes_owner wait t)
  wakes_owner_passes (for_mutex_again j how) t s = returns_from_wait_passes how t s
  wakes_owner_passes _ t s = wakes_telling_passes _ t res.Zero 0 s

-- ---- one thread blocks before or after another wakes

changed_swap : {X : Type 0} (none : X) (n k : ℕ) (f g : X → X) (xs : List X) → (n == k) ≡ false →
    changed_at none n f (changed_at none k g xs) ≡ changed_at none k g (changed_at none n f xs)
changed_swap none n k f g [] h = refl
changed_swap none zero zero f g (x ∷ xs) h = absurd (grind arith)
changed_swap none zero (suc k) f g (x ∷ xs) h = refl
changed_swap none (suc n) zero f g (x ∷ xs) h = refl
changed_swap none (suc n) (suc k) f g (x ∷ xs) h = ap (λ ys. x ∷ ys) (changed_swap none n k f g xs (grind arith))

module _ {P : Type 0} (by : Caller) (wait : Wait) (due : Option ℕ) (t : ℕ) (h : (t == by.thread) ≡ false) where
  abbrev blocking : Turn P → Turn P
  blocking s = blocks by wait due s

  abbrev waiting_now : Turn P → Thread P → Thread P
  waiting_now s = put_to_wait (record { wait = wait; serial = s.machine.next_serial; due = due; call = by.call })

  changes_swap : (f : Thread P → Thread P) (s : Turn P) → changes t f (blocking s) ≡ blocking (changes t f s)
  changes_swap f s =
      ap (λ threads. record s { machine = record (s.machine) { threads = threads; next_serial = s.machine.next_serial + 1 } })
      (changed_swap no_thread t by.thread f (waiting_now s) s.machine.threads h)

  activates_swap : (o : Option ServerState) (s : Turn P) → activates_server t o (blocking s) ≡ blocking (activates_server t o s)
  activates_swap None s = refl
  activates_swap (Some server) s = ap (tells (event.Activate t server.capacity)) (changes_swap (with_server (activate s.machine.now)) s)

  pub wakes_telling_swap : (e : Event) (r : Res) (v : ℕ) (s : Turn P) → wakes_telling e t r v (blocking s) ≡ blocking (wakes_telling e t r v s)
  wakes_telling_swap e r v s =
      let up = tells e (moves t (changes t (woken r v) s)) in
      let other : (by.thread == t) ≡ false = grind arith in
      ap (λ (x : Turn P). activates_if_high t (tells e (moves t x))) (changes_swap (woken r v) s)
      ∙ ap (λ (th : Thread P). activates_server t (at_once (high_server th.server)) (blocking up)) (thread-other up.machine by.thread t (waiting_now up) other)
      ∙ activates_swap (at_once (high_server (thread_at up.machine t).server)) up

  named_swap : (r : Res) (s : Turn P) → wakes t r 0 (blocking s) ≡ blocking (wakes t r 0 s)
  named_swap r s =
      let other : (by.thread == t) ≡ false = grind arith in
      ap (λ (th : Thread P). wakes_telling (event.Return t (name_of (call_in (waiting_in th.status))) r 0) t r 0 (blocking s)) (thread-other s.machine by.thread t (waiting_now s) other)
      ∙ wakes_telling_swap (event.Return t (name_of (call_in (waiting_of s.machine t))) r 0) r 0 s

  pub returns_from_wait_swap : (how : CondEnd) (s : Turn P) → returns_from_wait how t (blocking s) ≡ blocking (returns_from_wait how t s)
  returns_from_wait_swap cond_end.Signalled s = named_swap res.Zero s
  returns_from_wait_swap cond_end.Timedout s = named_swap res.Timedout s
  returns_from_wait_swap cond_end.Cancelled s =
      let other : (by.thread == t) ≡ false = grind arith in
      let result = last_result t s.machine in
      let value = last_value t s.machine in
      ap (λ (th : Thread P). changes t (ending_with cancelled_value) (wakes_telling (event.Cancel t) t (top_result th.frames) (top_value th.frames) (blocking s)))
      (thread-other s.machine by.thread t (waiting_now s) other)
      ∙ ap (changes t (ending_with cancelled_value)) (wakes_telling_swap (event.Cancel t) result value s)
      ∙ changes_swap (ending_with cancelled_value) (wakes_telling (event.Cancel t) t result value s)

  pub wakes_owner_swap : (wait : Wait) (s : Turn P) → wakes_owner wait t (blocking s) ≡ blocking (wakes_owner wait t s)
  wakes_owner_swap (for_mutex_again k how) s = returns_from_wait_swap how s
  wakes_owner_swap _ s = named_swap res.Zero s

-- ---- what a waking leaves of the others and of the mutexes

module _ {P : Type 0} {X : Type 0} (part : Machine P → X) where
  -- a part that no change of a thread touches
  abbrev pub OfNoThread : Type 0
  OfNoThread = (m : Machine P) (threads : List (Thread P)) → part (record m { threads = threads }) ≡ part m

  pub activates_part : OfNoThread → (t : ℕ) (o : Option ServerState) (s : Turn P) → part (activates_server t o s).machine ≡ part s.machine
  activates_part h t None s = refl
  activates_part h t (Some server) s = h s.machine _

  pub wakes_telling_part : OfNoThread → (e : Event) (t : ℕ) (r : Res) (v : ℕ) (s : Turn P) → part (wakes_telling e t r v s).machine ≡ part s.machine
  wakes_telling_part h e t r v s =
      let up = tells e (moves t (changes t (woken r v) s)) in
      activates_part h t (at_once (high_server (thread_at up.machine t).server)) up ∙ h s.machine _

  pub returns_from_wait_part : OfNoThread → (how : CondEnd) (t : ℕ) (s : Turn P) → part (returns_from_wait how t s).machine ≡ part s.machine
  returns_from_wait_part h cond_end.Signalled t s = wakes_telling_part h _ t res.Zero 0 s
  returns_from_wait_part h cond_end.Timedout t s = wakes_telling_part h _ t res.Timedout 0 s
  returns_from_wait_part h cond_end.Cancelled t s =
      let up = wakes_telling (event.Cancel t) t (last_result t s.machine) (last_value t s.machine) s in
      h up.machine _ ∙ wakes_telling_part h (event.Cancel t) t (last_result t s.machine) (last_value t s.machine) s

  pub wakes_owner_part : OfNoThread → (wait : Wait) (t : ℕ) (s : Turn P) → part (wakes_owner wait t s).machine ≡ part s.machine
  wakes_owner_part h (for_mutex_again k how) t s = returns_from_wait_part h how t s
  wakes_owner_part h _ t s = wakes_telling_part h _ t res.Zero 0 s

module _ {P : Type 0} (t u : ℕ) (h : (t == u) ≡ false) where
  returns_from_wait_other : (how : CondEnd) (s : Turn P) → (thread_at (returns_from_wait how t s).machine u).status ≡ (thread_at s.machine u).status
  returns_from_wait_other cond_end.Signalled s = woken_other _ t u res.Zero 0 s h
  returns_from_wait_other cond_end.Timedout s = woken_other _ t u res.Timedout 0 s h
  returns_from_wait_other cond_end.Cancelled s =
      status_kept t u (ending_with cancelled_value) (λ th. refl) (wakes_telling (event.Cancel t) t (last_result t s.machine) (last_value t s.machine) s)
      ∙ woken_other (event.Cancel t) t u (last_result t s.machine) (last_value t s.machine) s h

  pub wakes_owner_other : (wait : Wait) (s : Turn P) → (thread_at (wakes_owner wait t s).machine u).status ≡ (thread_at s.machine u).status
  wakes_owner_other (for_mutex_again k how) s = returns_from_wait_other how s
  wakes_owner_other _ s = woken_other _ t u res.Zero 0 s h
