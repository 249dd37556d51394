-- A thread may be linked anew, by the ties of the table.
use Rattle.std.proofs.Common.{◌<◌, ℕ, List, None, Option, Some, ap, length, subst, sym, ◌∙◌}
use Rattle.rules_bodies.specs.declared.cursor.Cursor.{Cursor}
use Rattle.rules_machine.specs.Priorities.{Claim}
use Rattle.rules_machine.specs.State.{Thread, Timer}
use Rattle.parts_waiters.specs.declared.Place.{Place}
use Rattle.parts_owners.specs.Chains.{Links, closes_cycle_in}
use Rattle.kernel_table.specs.Moves.{CanRelink, MayAwait}
use Rattle.kernel_table.specs.Table.{CanAwait}
use Rattle.kernel_table.specs.Tied.{IsTied}
use Rattle.kernel_table.proofs.Ties.{placed}
use Rattle.kernel_table.proofs.ToldMoves.{claims_long, table_with}

pub can_relink : (threads : List (Thread Cursor)) (chain : Links) (places : List (Option Place)) (t : ℕ) → t < length threads → IsTied threads chain places → CanRelink chain places t
can_relink threads chain places t known tied = record {
  known = subst (λ (n : ℕ). t < n) (sym (claims_long threads chain places tied)) known;
  placed = placed threads chain places tied;
}

pub may_await : (timers : List Timer) (threads : List (Thread Cursor)) (chain : Links) (places : List (Option Place)) (t : ℕ) (k : Option ℕ) → IsTied threads chain places →
    CanAwait (table_with timers threads chain) t k → MayAwait chain t k
may_await timers threads chain places t None tied can = tt
may_await timers threads chain places t (Some k) tied can =
    (can.0, can.1, ap (λ (cs : List Claim). closes_cycle_in cs chain.mutexes t k) tied.claims ∙ can.2)
