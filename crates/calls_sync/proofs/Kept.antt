-- What holds of the threads that wait stays, where a thread changes in neither its status nor its server.
use Rattle.std.proofs.Common.{◌≡◌, ◌∙◌, ℕ, true, false, Option, ap, length, subst, sym}
use Rattle.std.specs.Option.{option_map_or}
use Rattle.rules_server.specs.Server.{ServerState}
use Rattle.rules_bodies.specs.declared.cursor.Cursor.{Cursor}
use Rattle.rules_machine.specs.GoodState.{is_in_condition_wait}
use Rattle.rules_machine.specs.State.{Status, Thread, Waiting}
use Rattle.rules_machine.specs.Threads.{can_run, is_blocked, is_runnable, no_thread, thread_at, waiting_in}
use Rattle.rules_machine.specs.Turns.{Turn, changes}
use Rattle.rules_machine.proofs.Reading.{changed-keeps}
use Rattle.kernel_threads.specs.Unused.{IsUnused}
use Rattle.kernel_wakes.specs.Waits.{WaitKnowsMutex, BlockedRest, WaitsFit}

module _ (t : ℕ) (f : Thread Cursor → Thread Cursor) (s : Turn Cursor) (status : (th : Thread Cursor) → (f th).status ≡ th.status) where
  abbrev changed_thread : ℕ → Thread Cursor
  changed_thread u = thread_at (changes t f s).machine u

  pub kept_status : (u : ℕ) → (changed_thread u).status ≡ (thread_at s.machine u).status
  kept_status u = changed-keeps no_thread t u f (λ (th : Thread Cursor). th.status) status s.machine.threads

  -- it can run as before
  pub kept_runs : (u : ℕ) → can_run s.machine u ≡ true → can_run (changes t f s).machine u ≡ true
  kept_runs u e = ap is_runnable (kept_status u) ∙ e

  module _ (server : (th : Thread Cursor) → (f th).server ≡ th.server) where
    kept_server : (u : ℕ) → (changed_thread u).server ≡ (thread_at s.machine u).server
    kept_server u = changed-keeps no_thread t u f (λ (th : Thread Cursor). th.server) server s.machine.threads

    pub kept_unused : (u : ℕ) → IsUnused (thread_at s.machine u).server → IsUnused (changed_thread u).server
    kept_unused u h = subst (λ (o : Option ServerState). IsUnused o) (sym (kept_server u)) h

    pub kept_rest : BlockedRest s.machine → BlockedRest (changes t f s).machine
    kept_rest rests u e = kept_unused u (rests u (sym (ap is_blocked (kept_status u)) ∙ e))

    pub kept_fits : WaitsFit s.machine → WaitsFit (changes t f s).machine
    kept_fits h = record {
      mutexes = λ u. subst (λ (x : Status). WaitKnowsMutex (length s.machine.mutexes) (waiting_in x)) (sym (kept_status u)) (h.mutexes u);
      rests = kept_rest h.rests;
      own_none = λ u e. h.own_none u (sym (ap (λ (x : Status). option_map_or (λ (w : Waiting). is_in_condition_wait w.wait) (waiting_in x) false) (kept_status u)) ∙ e);
    }
