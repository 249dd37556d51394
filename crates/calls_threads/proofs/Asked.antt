-- What requests count on stays where a thread is asked to end.
use Rattle.std.proofs.Common.{◌≡◌, ◌∙◌, ℕ, ap, arith, refl, sym}
use Rattle.words_numbers.specs.declared.res.Res.TheVariants as res
use Rattle.rules_bodies.specs.declared.cursor.Cursor.{Cursor}
use Rattle.rules_machine.specs.Cancellation.{requested}
use Rattle.rules_machine.specs.State.{Thread}
use Rattle.rules_machine.specs.Threads.{is_blocked, no_thread, waiting_in}
use Rattle.rules_machine.specs.Turns.{Caller, Turn, answered, changes, returns, ◌▷◌}
use Rattle.rules_machine.proofs.Reading.{changed-keeps, changed-length}
use Rattle.kernel_wakes.specs.Waits.{WaitsFit}
use Rattle.calls_sync.proofs.Kept.{kept_fits, kept_status}
use Rattle.calls_sync.proofs.Returned.{returned_fits}
use Rattle.kernel_wakes.specs.Joins.{JoinsFit}

-- a thread changes in neither its status nor its joiner
pub kept_joins : (t : ℕ) (f : Thread Cursor → Thread Cursor) (s : Turn Cursor) → ((th : Thread Cursor) → (f th).status ≡ th.status) → ((th : Thread Cursor) → (f th).joiner ≡ th.joiner) →
    JoinsFit s.machine → JoinsFit (changes t f s).machine
kept_joins t f s status joiner h = record {
  joiners = λ v u e. ap is_blocked (kept_status t f s status u) ∙ h.joiners v u (sym (changed-keeps no_thread t v f (λ (th : Thread Cursor). th.joiner) joiner s.machine.threads) ∙ e);
  ends = λ u v w waits is. (let lt = h.ends u v w (sym (ap waiting_in (kept_status t f s status u)) ∙ waits) is in let e = changed-length no_thread t f s.machine.threads in omega (arith, e, lt));
}

module _ (by : Caller) (u : ℕ) (s : Turn Cursor) where
  pub asked_fits : WaitsFit s.machine → WaitsFit (s ▷ returns by res.Zero 0 ▷ changes u requested).machine
  asked_fits h = kept_fits u requested (returns by res.Zero 0 s) (λ th. refl) (λ th. refl) (returned_fits by res.Zero s h)

  pub asked_joins : JoinsFit s.machine → JoinsFit (s ▷ returns by res.Zero 0 ▷ changes u requested).machine
  asked_joins h = kept_joins u requested (returns by res.Zero 0 s) (λ th. refl) (λ th. refl) (kept_joins by.thread (answered res.Zero 0) s (λ th. refl) (λ th. refl) h)
