-- A thread that may run is told as ready.
use Rattle.std.proofs.Common.{◌≡◌, ◌∙◌, ap, refl, sym, true, ℕ}
use Rattle.rules_machine.specs.State.{Machine, Status, blocked, dormant, ended, runnable}
use Rattle.rules_machine.specs.Threads.{is_runnable}
use Rattle.rules_facts.specs.Fact.{ready_thread}
use Rattle.rules_facts.specs.Threads.{priorities_of, status_fact}
use Rattle.kernel_seen.specs.Seen.{fact_of, seen_fact}
use Rattle.kernel_seen.specs.declared.seen.Seen.{Seen}
use Rattle.kernel_seen.specs.declared.seen.SeenStatus.{SeenStatus}
use Rattle.kernel_seen.specs.declared.seen.SeenStatus.TheVariants as statuses

-- one that may run
pub runnable_told : {P : Type 0} (m : Machine P) (t : ℕ) (status : Status) → is_runnable status ≡ true → status_fact m t status ≡ ready_thread t (priorities_of m t)
runnable_told m t (dormant at) e = absurd (cc)
runnable_told m t runnable e = refl
runnable_told m t (blocked w) e = absurd (cc)
runnable_told m t ended e = absurd (cc)

-- what was seen of one that may run
pub ready_seen : {P : Type 0} (m : Machine P) (t : ℕ) (s : Seen) → s.status ≡ statuses.Ready → (priorities_of m t).assigned ≡ s.assigned → (priorities_of m t).exec ≡ s.exec
    → seen_fact t s ≡ ready_thread t (priorities_of m t)
ready_seen m t s ready assigned exec = ap (λ (status : SeenStatus). fact_of status t s) ready ∙ rw (sym assigned, sym exec) refl
