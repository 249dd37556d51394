-- A thread that waits, and that a request acts in.
use Rattle.std.proofs.Common.{◌≡◌, ◌<◌, ◌∙◌, ℕ, Option, None, Some, ap, arith, length, refl, sym}
use Rattle.std.specs.Prelude.{option_map}
use Rattle.rules_bodies.specs.declared.cursor.Cursor.{Cursor}
use Rattle.rules_machine.specs.Cancellation.{leaves, leaves_wait}
use Rattle.rules_machine.specs.State.{Machine, Wait, Waiting, for_condition, for_end, for_message, for_mutex, for_mutex_again, for_room, for_semaphore, for_signal, for_time}
use Rattle.rules_machine.specs.Threads.{thread_at, waiting_of}
use Rattle.rules_machine.specs.Turns.{Turn}
use Rattle.rules_moves.proofs.Calls.Answers.{waits_blocked}
use Rattle.kernel_threads.specs.Plain.{wait_of}
use Rattle.kernel_threads.specs.declared.status.Wait as plain
use Rattle.kernel_threads.specs.Unused.{IsUnused}
use Rattle.kernel_wakes.specs.Waits.{BlockedRest}
use Rattle.kernel_wakes.specs.Joins.{EndIsKnown, JoinsFit}

-- its wait as the code has it
abbrev pub WaitIs : Option plain.Wait → Option Waiting → Type 0
WaitIs x o = option_map wait_of x ≡ option_map (λ (w : Waiting). w.wait) o

none_of : (o : Option Waiting) (u : ℕ) (s : Turn Cursor) → WaitIs None o → s ≡ leaves_wait o u s
none_of None u s is = refl
none_of (Some w) u s is = absurd cc

some_of : (o : Option Waiting) (y : plain.Wait) (u : ℕ) (s : Turn Cursor) → WaitIs (Some y) o → leaves (wait_of y) u s ≡ leaves_wait o u s
some_of None y u s is = absurd cc
some_of (Some w) y u s is = let e : wait_of y ≡ w.wait = cc in ap (λ (x : Wait). leaves x u s) e

module _ (u : ℕ) (s : Turn Cursor) where
  pub none_left : WaitIs None (waiting_of s.machine u) → s ≡ leaves_wait (waiting_of s.machine u) u s
  none_left is = none_of (waiting_of s.machine u) u s is

  pub some_left : (y : plain.Wait) → WaitIs (Some y) (waiting_of s.machine u) → leaves (wait_of y) u s ≡ leaves_wait (waiting_of s.machine u) u s
  some_left y is = some_of (waiting_of s.machine u) y u s is

-- what it waits for, and that it has used nothing
module _ (m : Machine Cursor) (u : ℕ) (y : plain.Wait) (is : WaitIs (Some y) (waiting_of m u)) where
  its_wait : (w : Waiting) × (waiting_of m u ≡ Some w) × (wait_of y ≡ w.wait)
  its_wait = by_wait (waiting_of m u) refl is
    where
      by_wait : (o : Option Waiting) → waiting_of m u ≡ o → WaitIs (Some y) o → (w : Waiting) × (waiting_of m u ≡ Some w) × (wait_of y ≡ w.wait)
      by_wait None e same = absurd cc
      by_wait (Some w) e same = (w, e, (let f : wait_of y ≡ w.wait = cc in f))

  known_end : (n : ℕ) (x : Wait) → ((t : ℕ) → x ≡ for_end t → t < n) → EndIsKnown n x
  known_end n (for_mutex k) h = tt
  known_end n (for_mutex_again k how) h = tt
  known_end n (for_condition c k) h = tt
  known_end n (for_end t) h = h t refl
  known_end n (for_semaphore k) h = tt
  known_end n for_time h = tt
  known_end n (for_room q message) h = tt
  known_end n (for_message q) h = tt
  known_end n (for_signal signals) h = tt

  pub end_known : (n : ℕ) → length m.threads ≡ n → JoinsFit m → EndIsKnown n (wait_of y)
  end_known n many fits = known_end n (wait_of y) (λ t e. (let lt = fits.ends u t its_wait.0 its_wait.1 (sym its_wait.2 ∙ e) in omega (arith, many, lt)))

  pub left_unused : BlockedRest m → IsUnused (thread_at m u).server
  left_unused rests = rests u (waits_blocked m u its_wait.0 its_wait.1)
