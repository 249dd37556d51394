-- What the calls of conditions count on stays, where a call returns.
use Rattle.std.proofs.Common.{◌≡◌, ◌∙◌, ◌⊎◌, inl, inr, ℕ, false, ap, length, subst, sym}
use Rattle.std.specs.Option.{option_map_or}
use Rattle.words_numbers.specs.declared.res.Res.{Res}
use Rattle.rules_bodies.specs.declared.cursor.Cursor.{Cursor}
use Rattle.rules_machine.specs.GoodState.{is_in_condition_wait}
use Rattle.rules_machine.specs.State.{Status, Thread, Waiting}
use Rattle.rules_machine.specs.Threads.{is_blocked, no_thread, thread_at, waiting_in}
use Rattle.rules_machine.specs.Turns.{Caller, Turn, answered, returns}
use Rattle.rules_moves.proofs.Calls.Answers.{waits_blocked}
use Rattle.rules_moves.proofs.Waiters.OfThreads.{changed_is}
use Rattle.kernel_threads.specs.Unused.{IsUnused}
use Rattle.kernel_wakes.specs.Waits.{WaitKnowsMutex, BlockedRest, MutexWaitersRest, WaitsFit}

module _ (by : Caller) (r : Res) (s : Turn Cursor) where
  abbrev answered_at : ℕ → Thread Cursor
  answered_at u = thread_at (returns by r 0 s).machine u

  abbrev Cases : ℕ → Type 0
  Cases u = ((by.thread ≡ u) × (answered_at u ≡ answered r 0 (thread_at s.machine by.thread))) ⊎ (answered_at u ≡ thread_at s.machine u)

  same_status : (u : ℕ) → Cases u → (answered_at u).status ≡ (thread_at s.machine u).status
  same_status u (inl (same, at)) = ap (λ (th : Thread Cursor). th.status) at ∙ ap (λ (v : ℕ). (thread_at s.machine v).status) same
  same_status u (inr at) = ap (λ (th : Thread Cursor). th.status) at

  same_server : (u : ℕ) → Cases u → (answered_at u).server ≡ (thread_at s.machine u).server
  same_server u (inl (same, at)) = ap (λ (th : Thread Cursor). th.server) at ∙ ap (λ (v : ℕ). (thread_at s.machine v).server) same
  same_server u (inr at) = ap (λ (th : Thread Cursor). th.server) at

  status_stays : (u : ℕ) → (answered_at u).status ≡ (thread_at s.machine u).status
  status_stays u = same_status u (changed_is no_thread by.thread u (answered r 0) s.machine.threads)

  server_stays : (u : ℕ) → (answered_at u).server ≡ (thread_at s.machine u).server
  server_stays u = same_server u (changed_is no_thread by.thread u (answered r 0) s.machine.threads)

  rested : (u : ℕ) → IsUnused (thread_at s.machine u).server → IsUnused (answered_at u).server
  rested u h = rw (server_stays u) h

  pub returned_rest : BlockedRest s.machine → BlockedRest (returns by r 0 s).machine
  returned_rest rests u e = rested u (rests u (sym (ap is_blocked (status_stays u)) ∙ e))

  pub returned_waiters : (k : ℕ) → BlockedRest s.machine → MutexWaitersRest (returns by r 0 s).machine k
  returned_waiters k rests u w waits passes = rested u (rests u (waits_blocked s.machine u w (sym (ap waiting_in (status_stays u)) ∙ waits)))

  pub returned_fits : WaitsFit s.machine → WaitsFit (returns by r 0 s).machine
  returned_fits h = record {
    mutexes = λ u. subst (λ (x : Status). WaitKnowsMutex (length s.machine.mutexes) (waiting_in x)) (sym (status_stays u)) (h.mutexes u);
    rests = returned_rest h.rests;
    own_none = λ u e. h.own_none u (sym (ap (λ (x : Status). option_map_or (λ (w : Waiting). is_in_condition_wait w.wait) (waiting_in x) false) (status_stays u)) ∙ e);
  }
