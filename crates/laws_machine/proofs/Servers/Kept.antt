-- The servers in the words of a good state, and at the opening.
use Rattle.std.proofs.Common.{Bool, List, None, [], ap, arith, false, length, refl, suc, sym, zero, ℕ, ◌+◌, ◌<◌, ◌≤◌, ◌∷◌, ◌≡◌}
use Rattle.std.specs.Prelude.{All, is_some, map, slice_index_or, ◌&&◌}
use Rattle.std.specs.List.{AllAdjacentBelow}
use mathlib.Core.Path.{subst, ◌∙◌}
use Rattle.words_script.specs.declared.decl.Script.{Script}
use Rattle.words_script.specs.declared.policy.Policy.{Policy}
use Rattle.words_script.specs.declared.policy.Policy.TheVariants as policy
use Rattle.rules_server.specs.declared.Replenish.{Replenish}
use Rattle.rules_server.specs.Server.{ServerState}
use Rattle.rules_machine.specs.Bodies.{Bodies}
use Rattle.rules_machine.specs.State.{Machine, Thread}
use Rattle.rules_machine.specs.Threads.{is_live, thread_at, thread_in}
use Rattle.rules_machine.specs.Declarations.{ThreadDecl, threads_of}
use Rattle.rules_machine.specs.Turns.{turn_of}
use Rattle.rules_machine.specs.Runs.{opening, thread_opened}
use Rattle.rules_machine.specs.GoodState.{HasParameters, ServerIsRight, ServersAreRight, has_server_policy}
use Rattle.rules_machine.specs.WellFormed.{IsWellFormed}
use Rattle.rules_moves.proofs.Waiters.Best.{Each}
use Rattle.rules_moves.proofs.Runs.Units as units_fit
use Rattle.rules_moves.proofs.Runs.Units.{threads_fit}
use Rattle.laws_machine.proofs.Servers.OfThreads.{MayServe, ThreadRight, fits_serve}
use Rattle.laws_machine.proofs.Servers.Right.{Rising, ServerIn}
use Rattle.laws_machine.proofs.Servers.Moves.{Threads}
use Rattle.laws_machine.proofs.Servers.Ticks.{ServedRight}
use Rattle.laws_machine.proofs.Parts.Opening.{opening_right}

each_all : {X : Type 0} (Law : X → Type 0) (xs : List X) → Each Law xs → All Law xs
each_all Law [] each k d h = absurd (omega arith)
each_all Law (x ∷ xs) each zero d h = each.0
each_all Law (x ∷ xs) each (suc k) d h = each_all Law xs each.1 k d (omega arith)

rising_all : (rs : List Replenish) → Rising rs → AllAdjacentBelow (λ (a b : Replenish). a.due < b.due) rs (length rs)
rising_all [] up k d h = absurd (omega arith)
rising_all (r ∷ []) up k d h = absurd (omega arith)
rising_all (r ∷ q ∷ rs) up zero d h = up.0.0
rising_all (r ∷ q ∷ rs) up (suc k) d h =
    let next : suc (k + 1) ≡ suc k + 1 = omega arith in
    subst (λ (i : ℕ). (slice_index_or (r ∷ q ∷ rs) (suc k) d).due < (slice_index_or (r ∷ q ∷ rs) i d).due) next (rising_all (q ∷ rs) up.1 k d (omega arith))

server_right : {P : Type 0} (m : Machine P) (t : ℕ) (s : ServerState) → ServerIn false m.now (thread_at m t).status s → ServerIsRight m t s
server_right m t s h = record {
  budget = h.sound.budget;
  amounts = each_all (λ (r : Replenish). 1 ≤ r.amount) s.pending h.sound.amounts;
  few = h.sound.few;
  rising = rising_all s.pending h.sound.rising;
  within_period = each_all (λ (r : Replenish). r.due < m.now + s.params.period) s.pending h.sound.within;
  activated = h.sound.activated;
  consuming = λ some. let c = h.consumed some in record { runnable = (c.runs refl).0; high = (c.runs refl).1; before = c.before; unbroken = c.unbroken };
}

pub servers_right : {P : Type 0} (bodies : Bodies P) (m : Machine P) → Threads bodies None (turn_of m) → ServersAreRight m
servers_right bodies m all = record { having = λ t. (all t).having; parameters = λ t. (all t).parameters; each = λ t s e. server_right m t s ((all t).each s e) }

-- ---- the opening

no_server : {P : Type 0} (now : ℕ) (th : Thread P) → MayServe th.policy → th.server ≡ None → is_live th.status ≡ false → ThreadRight false now th
no_server now th serves none dead = record {
  serves = serves;
  having = ap is_some none ∙ ap (λ (live : Bool). live && has_server_policy th.policy) (sym dead);
  parameters = subst (HasParameters th.policy) (sym none) (without th.policy);
  each = λ x k. absurd (grind arith);
}
  where
    without : (rule : Policy) → HasParameters rule None
    without (policy.Fifo p) = refl
    without (policy.Rr p) = refl
    without (policy.Sporadic params) = tt
    without (policy.Strict params) = tt

pub opened_server : (P : Type 0) (ds : List ThreadDecl) (t : ℕ) → (thread_in (map (λ (d : ThreadDecl). thread_opened {P = P} d) ds) t).server ≡ None
opened_server P [] t = refl
opened_server P (d ∷ ds) zero = refl
opened_server P (d ∷ ds) (suc t) = opened_server P ds t

opened_dead : (P : Type 0) (ds : List ThreadDecl) (t : ℕ) → is_live (thread_in (map (λ (d : ThreadDecl). thread_opened {P = P} d) ds) t).status ≡ false
opened_dead P [] t = refl
opened_dead P (d ∷ ds) zero = refl
opened_dead P (d ∷ ds) (suc t) = opened_dead P ds t

opened_serves : (P : Type 0) (ds : List ThreadDecl) (t : ℕ) → Each units_fit.ThreadFits ds → MayServe (thread_in (map (λ (d : ThreadDecl). thread_opened {P = P} d) ds) t).policy
opened_serves P [] t each = tt
opened_serves P (d ∷ ds) zero each = fits_serve d.policy each.0.0
opened_serves P (d ∷ ds) (suc t) each = opened_serves P ds t each.1

module _ {P : Type 0} (bodies : Bodies P) (script : Script) (fits : IsWellFormed script) where
  pub opening_served : ServedRight bodies (turn_of (opening script))
  opening_served = (
    opening_right P script,
    λ t. no_server 0 (thread_at (opening script) t) (opened_serves P (threads_of script) t (threads_fit script.decls fits.priorities)) (opened_server P (threads_of script) t) (opened_dead P (threads_of script) t),
  )
