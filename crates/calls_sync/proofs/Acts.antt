-- What the answers of the rules mean.
use Rattle.std.proofs.Common.{◌≡◌, ℕ, Bool, true, false, Option, None, Some, refl}
use Rattle.std.specs.Prelude.{IsSome, is_none, not, if◌then◌else◌, ◌==◌, ◌&&◌}
use Rattle.words_numbers.specs.declared.res.Res.{Res}
use Rattle.words_numbers.specs.declared.res.Res.TheVariants as res
use Rattle.words_script.specs.declared.policy.Protocol.{Protocol}
use Rattle.words_script.specs.declared.policy.Protocol.TheVariants as protocol
use Rattle.rules_machine.specs.Lists.{is}
use Rattle.rules_machine.specs.State.{Machine, Thread}
use Rattle.parts_owners.specs.Chains.{is_plainly_free, raises_nobody}
use Rattle.rules_machine.specs.Threads.{can_run, mutex_at, thread_at}
use Rattle.rules_machine.specs.Mutexes.{closes_cycle, counts, is_above_ceiling, is_free, lock_answer, locked_again, must_wait, owns, recursion_limit, refused, takes, trylock_answer}
use Rattle.rules_machine.specs.Turns.{is_late}
use Rattle.rules_bodies.specs.declared.cursor.Cursor.{Cursor}
use Rattle.rules_machine.specs.Priorities.{mutex_awaited_by}
use Rattle.kernel_state.proofs.Waits.{awaits_none as running_awaits}
use Rattle.calls_sync.specs.Answers.{CanAct}

module _ {P : Type 0} (m : Machine P) (t k : ℕ) where
  again : (otherwise : Res) → CanAct m t k (locked_again (mutex_at m k) otherwise)
  again otherwise = by_kind (mutex_at m k).is_recursive ((mutex_at m k).count == recursion_limit) refl
    where
      by_kind : (a b : Bool) → ((mutex_at m k).count == recursion_limit) ≡ b → CanAct m t k (if not a then refused otherwise else if b then refused res.Again else counts)
      by_kind false b e = tt
      by_kind true true e = tt
      by_kind true false e = e

  free_is : (o : Option ℕ) → is_none o ≡ true → o ≡ None
  free_is None h = refl
  free_is (Some u) h = absurd cc

  owned_is : (o : Option ℕ) → is_none o ≡ false → IsSome o
  owned_is None h = absurd cc
  owned_is (Some u) h = refl

  -- what a lock comes to
  pub lock_acts : (due : Option ℕ) → CanAct m t k (lock_answer m t k due)
  lock_acts due = by_case (is_above_ceiling (thread_at m t) (mutex_at m k).protocol) (owns m t k) (is_free m k) refl (closes_cycle m k t) refl (is_late due m)
    where
      by_case : (a b c : Bool) → is_free m k ≡ c → (d : Bool) → closes_cycle m k t ≡ d → (late : Bool) →
          CanAct m t k (if a then refused res.Inval else if b then locked_again (mutex_at m k) res.Deadlk else if c then takes else if d then refused res.Deadlk else if late then refused res.Timedout else must_wait)
      by_case true b c e d f late = tt
      by_case false true c e d f late = again res.Deadlk
      by_case false false true e d f late = free_is (mutex_at m k).owner e
      by_case false false false e true f late = tt
      by_case false false false e false f true = tt
      by_case false false false e false f false = (owned_is (mutex_at m k).owner e, f)

  none_owns : (o : Option ℕ) → is_none o ≡ true → is o t ≡ false
  none_owns None h = refl
  none_owns (Some u) h = absurd cc

  under_no_ceiling : (th : Thread P) (p : Protocol) (first : Option ℕ) → raises_nobody p first ≡ true → is_above_ceiling th p ≡ false
  under_no_ceiling th protocol.Plain first h = refl
  under_no_ceiling th protocol.Inherit first h = refl
  under_no_ceiling th (protocol.Protect n) first h = absurd cc

  both_are : (a b : Bool) → (a && b) ≡ true → (a ≡ true) × (b ≡ true)
  both_are true true h = (refl, refl)
  both_are true false h = absurd cc
  both_are false b h = absurd cc

  -- a lock takes a mutex that is plainly free
  pub plainly_takes : (due first : Option ℕ) → is_plainly_free (mutex_at m k) first ≡ true → lock_answer m t k due ≡ takes
  plainly_takes due first h =
      let two = both_are (is_none (mutex_at m k).owner) (raises_nobody (mutex_at m k).protocol first) h in
      let above = under_no_ceiling (thread_at m t) (mutex_at m k).protocol first two.1 in
      let owns = none_owns (mutex_at m k).owner two.0 in
      rw (above, owns, two.0) refl

  pub trylock_can : CanAct m t k (trylock_answer m t k)
  trylock_can = by_case (is_above_ceiling (thread_at m t) (mutex_at m k).protocol) (owns m t k) (is_free m k) refl
    where
      by_case : (a b c : Bool) → is_free m k ≡ c →
          CanAct m t k (if a then refused res.Inval else if b then locked_again (mutex_at m k) res.Busy else if c then takes else refused res.Busy)
      by_case true b c e = tt
      by_case false true c e = again res.Busy
      by_case false false true e = free_is (mutex_at m k).owner e
      by_case false false false e = tt

-- a caller runs, and so waits for nothing
pub awaits_none : (m : Machine Cursor) (t : ℕ) → can_run m t ≡ true → mutex_awaited_by (thread_at m t) ≡ None
awaits_none = running_awaits
