-- Events of two parts: an effect adds its events behind those that were told before, and does not look at them.
use Rattle.std.proofs.Common.{Bool, List, None, Option, Some, [], ap, append_assoc, false, refl, true, ℕ, ◌++◌, ◌∷◌, ◌≡◌}
use Rattle.std.specs.Prelude.{nat_lt, not, if◌then◌else◌}
use mathlib.Core.Path.{◌∙◌}
use Rattle.words_numbers.specs.declared.res.Res.{Res}
use Rattle.words_numbers.specs.declared.res.Res.TheVariants as res
use Rattle.words_trace.specs.declared.event.Event.{Event}
use Rattle.words_trace.specs.declared.event.Event.TheVariants as event
use Rattle.words_trace.specs.Text.{Entry}
use Rattle.rules_server.specs.Server.{ServerState, activate}
use Rattle.rules_machine.specs.declared.thread.CondEnd.{CondEnd}
use Rattle.rules_machine.specs.declared.thread.CondEnd.TheVariants as cond_end
use Rattle.rules_machine.specs.State.{Machine, Wait, for_mutex_again}
use Rattle.rules_machine.specs.Threads.{mutex_at, thread_at, waiting_of}
use Rattle.rules_machine.specs.Waiters.{Waiter, best_waiter}
use Rattle.rules_machine.specs.CallNames.{name_of}
use Rattle.rules_machine.specs.Turns.{Caller, Turn, answered, changes, changes_mutex, moves, returns, tells, ◌▷◌}
use Rattle.rules_machine.specs.Servers.{activates_if, activates_if_high, activates_server, at_once, with_server}
use Rattle.rules_machine.specs.Waking.{call_in, cancelled_value, ending_with, last_result, last_value, wakes, wakes_cancelled, wakes_telling, woken}
use Rattle.rules_machine.specs.Mutexes.{LockAnswer, counted_down, counted_up, counts, hands_over, locks, carries_out_lock, lock_answer, must_wait, owns, refused, releases, returns_from_wait, taken_by, takes, unlocks, waits_for_mutex, wakes_owner}

module _ {P : Type 0} where
  -- the turn with that told before it
  abbrev pub behind : List Entry → Turn P → Turn P
  behind told s = record s { events = told ++ s.events }

  -- an effect that adds its events behind
  abbrev pub AddsBehind : (Turn P → Turn P) → Type 0
  AddsBehind effect = (told : List Entry) (s : Turn P) → effect (behind told s) ≡ behind told (effect s)

  -- one after another
  pub then_behind : (f g : Turn P → Turn P) → AddsBehind f → AddsBehind g → AddsBehind (λ s. g (f s))
  then_behind f g h k told s = ap g (h told s) ∙ k told (f s)

  -- one of two, by what the machine is
  pub if_behind : (b : Machine P → Bool) (f g : Turn P → Turn P) → AddsBehind f → AddsBehind g → AddsBehind (λ s. if b s.machine then f s else g s)
  if_behind b f g h k told s = by_case (b s.machine)
    where
      by_case : (c : Bool) → (if c then f (behind told s) else g (behind told s)) ≡ behind told (if c then f s else g s)
      by_case true = h told s
      by_case false = k told s

  pub tells_behind : (e : Event) → AddsBehind (tells e)
  tells_behind e told s = ap (λ es. record s { events = es }) (append_assoc told s.events (record { time = s.machine.now; event = e } ∷ []))

  pub returns_behind : (by : Caller) (r : Res) (value : ℕ) → AddsBehind (returns by r value)
  returns_behind by r value told s = tells_behind (event.Return by.thread (name_of by.call) r value) told (changes by.thread (answered r value) s)

  pub activates_server_behind : (t : ℕ) (server : Option ServerState) → AddsBehind (activates_server t server)
  activates_server_behind t None told s = refl
  activates_server_behind t (Some server) told s = tells_behind (event.Activate t server.capacity) told (changes t (with_server (activate s.machine.now)) s)

  pub activates_if_behind : (b : Bool) (t : ℕ) → AddsBehind (activates_if b t)
  activates_if_behind true t told s = activates_server_behind t (at_once (thread_at s.machine t).server) told s
  activates_if_behind false t told s = refl

  pub wakes_telling_behind : (e : Event) (t : ℕ) (r : Res) (value : ℕ) → AddsBehind (wakes_telling e t r value)
  wakes_telling_behind e t r value told s =
      let up = moves t (changes t (woken r value) s) in
      ap (activates_if_high t) (tells_behind e told up) ∙ activates_server_behind t _ told (tells e up)

  pub wakes_behind : (t : ℕ) (r : Res) (value : ℕ) → AddsBehind (wakes t r value)
  wakes_behind t r value told s = wakes_telling_behind (event.Return t (name_of (call_in (waiting_of s.machine t))) r value) t r value told s

  pub wakes_cancelled_behind : (t : ℕ) → AddsBehind (wakes_cancelled t)
  wakes_cancelled_behind t told s = ap (changes t (ending_with cancelled_value)) (wakes_telling_behind (event.Cancel t) t (last_result t s.machine) (last_value t s.machine) told s)

  pub locks_on_behind : (a : LockAnswer) (by : Caller) (k : ℕ) (due : Option ℕ) → AddsBehind (carries_out_lock a by k due)
  locks_on_behind (refused r) by k due told s = returns_behind by r 0 told s
  locks_on_behind counts by k due told s = returns_behind by res.Zero 0 told (changes_mutex k counted_up s)
  locks_on_behind takes by k due told s = returns_behind by res.Zero 0 told (changes_mutex k (taken_by by.thread) s)
  locks_on_behind must_wait by k due told s = refl

  pub locks_behind : (by : Caller) (k : ℕ) (due : Option ℕ) → AddsBehind (locks by k due)
  locks_behind by k due told s = locks_on_behind (lock_answer s.machine by.thread k due) by k due told s

  pub returns_from_wait_behind : (how : CondEnd) (t : ℕ) → AddsBehind (returns_from_wait how t)
  returns_from_wait_behind cond_end.Signalled t told s = wakes_behind t res.Zero 0 told s
  returns_from_wait_behind cond_end.Timedout t told s = wakes_behind t res.Timedout 0 told s
  returns_from_wait_behind cond_end.Cancelled t told s = wakes_cancelled_behind t told s

  pub wakes_owner_behind : (wait : Wait) (t : ℕ) → AddsBehind (wakes_owner wait t)
  wakes_owner_behind (for_mutex_again k how) t told s = returns_from_wait_behind how t told s
  wakes_owner_behind _ t told s = wakes_behind t res.Zero 0 told s

  pub hands_over_behind : (w : Option Waiter) (k : ℕ) → AddsBehind (hands_over w k)
  hands_over_behind None k told s = refl
  hands_over_behind (Some w) k told s = wakes_owner_behind w.waiting.wait w.thread told (changes_mutex k (taken_by w.thread) s)

  pub releases_behind : (k : ℕ) → AddsBehind (releases k)
  releases_behind k told s = hands_over_behind (best_waiter s.machine (waits_for_mutex k)) k told s

  pub unlocks_behind : (by : Caller) (k : ℕ) → AddsBehind (unlocks by k)
  unlocks_behind by k =
      if_behind (λ m. not (owns m by.thread k)) (returns by res.Perm 0)
      (λ s. if nat_lt 1 (mutex_at s.machine k).count then (s ▷ returns by res.Zero 0 ▷ changes_mutex k counted_down) else (s ▷ returns by res.Zero 0 ▷ releases k))
      (returns_behind by res.Perm 0)
      (if_behind (λ m. nat_lt 1 (mutex_at m k).count) (λ s. s ▷ returns by res.Zero 0 ▷ changes_mutex k counted_down) (λ s. s ▷ returns by res.Zero 0 ▷ releases k)
      (then_behind (returns by res.Zero 0) (changes_mutex k counted_down) (returns_behind by res.Zero 0) (λ told s. refl))
      (then_behind (returns by res.Zero 0) (releases k) (returns_behind by res.Zero 0) (releases_behind k)))
