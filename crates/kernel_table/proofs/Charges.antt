-- What a thread keeps as it runs by itself. At a low priority it keeps its assigned priority.
use Rattle.std.proofs.Common.{◌≡◌, ◌∙◌, ◌<◌, ℕ, zero, suc, List, [], ◌∷◌, Option, None, Some, Bool, true, false, if◌then◌else◌, ap, is_some, length, option_map, arith, refl, sym}
use Rattle.rules_bodies.specs.declared.cursor.Cursor.{Cursor}
use Rattle.words_script.specs.declared.policy.Policy.{Policy}
use Rattle.rules_server.specs.Server.{ServerState, charge_ticks, is_high}
use Rattle.rules_machine.specs.Bodies.{Bodies}
use Rattle.rules_machine.specs.Priorities.{Claim, assigned_in, assigned_of, assigned_under, claims}
use Rattle.rules_machine.specs.Servers.{has_high}
use Rattle.rules_machine.specs.State.{Frame, Thread}
use Rattle.rules_machine.specs.Threads.{thread_in}
use Rattle.rules_machine.specs.Units.{in_unit}
use Rattle.rules_leaps.specs.Quiet.{after_ticks, server_after}
use Rattle.kernel_threads.specs.Running.{past, run_for}
use Rattle.parts_waiters.specs.declared.Place.{Place}
use Rattle.parts_owners.specs.Chains.{Links, assigned_at}
use Rattle.kernel_table.specs.Tied.{IsTied}
use Rattle.kernel_table.proofs.Statuses.{unit_keeps}

-- past some units, and after ticks of one more
abbrev pub run_past : Bodies Cursor → List ℕ → ℕ → Thread Cursor → Thread Cursor
run_past bodies units k th = run_for bodies k (past bodies units th)

-- what goes by neither frames nor cleanup handlers, where no charge changes it
module _ {X : Type 0} (bodies : Bodies Cursor) (view : Thread Cursor → X) (x : X)
    (same : (th : Thread Cursor) (fs : List (Frame Cursor)) (us : List ℕ) → view (record th { frames = fs; cleanups = us }) ≡ view th)
    (charged : (k : ℕ) (th : Thread Cursor) → view th ≡ x → view (after_ticks k th) ≡ x) where
  run_keeps : (k : ℕ) (th : Thread Cursor) → view th ≡ x → view (run_for bodies k th) ≡ x
  run_keeps k th is = charged k (in_unit bodies th).thread (unit_keeps bodies view same th ∙ is)

  past_keeps : (units : List ℕ) (th : Thread Cursor) → view th ≡ x → view (past bodies units th) ≡ x
  past_keeps [] th is = is
  past_keeps (k ∷ units) th is = past_keeps units (run_for bodies k th) (run_keeps k th is)

  pub runs_keep : (units : List ℕ) (k : ℕ) (th : Thread Cursor) → view th ≡ x → view (run_past bodies units k th) ≡ x
  runs_keep units k th is = run_keeps k (past bodies units th) (past_keeps units th is)

-- ---- the assigned priority

low_keeps : (k : ℕ) (server : Option ServerState) → has_high server ≡ false → option_map (server_after k) server ≡ server
low_keeps k None low = refl
low_keeps k (Some s) low = by_high (is_high s) low
  where
    by_high : (high : Bool) → is_some (if high then Some s else None) ≡ false → Some (if high then charge_ticks k s else s) ≡ Some s
    by_high true e = absurd (grind arith)
    by_high false e = refl

kept : (bodies : Bodies Cursor) (units : List ℕ) (k : ℕ) (th : Thread Cursor) → has_high th.server ≡ false → assigned_of (run_past bodies units k th) ≡ assigned_of th
kept bodies units k th low =
    ap (λ (p : Policy). assigned_under p (run_past bodies units k th).server)
    (runs_keep bodies (λ (x : Thread Cursor). x.policy) th.policy (λ x fs us. refl) (λ n x is. is) units k th refl)
    ∙ ap (assigned_under th.policy)
    (runs_keep bodies (λ (x : Thread Cursor). x.server) th.server (λ x fs us. refl) (λ n x is. ap (option_map (server_after n)) is ∙ low_keeps n th.server low) units k th refl)

pub assigned_is : (threads : List (Thread Cursor)) (chain : Links) (t : ℕ) → t < length threads →
    assigned_in (claims threads) chain.mutexes t ≡ assigned_of (thread_in threads t)
assigned_is [] chain t inside = elim inside [ ]
assigned_is (th ∷ threads) chain zero inside = refl
assigned_is (th ∷ threads) chain (suc t) inside = assigned_is threads chain t (omega (arith, inside))

pub stays_assigned : (bodies : Bodies Cursor) (threads : List (Thread Cursor)) (chain : Links) (places : List (Option Place)) (t : ℕ) (units : List ℕ) (k : ℕ) → IsTied threads chain places →
    t < length threads → has_high (thread_in threads t).server ≡ false → assigned_of (run_past bodies units k (thread_in threads t)) ≡ assigned_at chain t
stays_assigned bodies threads chain places t units k tied inside low =
    kept bodies units k (thread_in threads t) low ∙ sym (assigned_is threads chain t inside)
    ∙ ap (λ (cs : List Claim). assigned_in cs chain.mutexes t) (sym tied.claims)
