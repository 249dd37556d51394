-- What is told of mutexes, conditions, semaphores and timers: owners, values, due ticks, and who waits in the order of service. That
-- it is told so is this project's own.
use Rattle.std.specs.Prelude.{Bool, List, Option, map, option_map, ℕ}
use Rattle.words_script.specs.declared.name_kind.NameKind.TheVariants as kind
use Rattle.rules_machine.specs.Conditions.{waits_on_condition}
use Rattle.rules_machine.specs.Mutexes.{waits_for_mutex}
use Rattle.rules_machine.specs.Semaphores.{waits_on_semaphore}
use Rattle.rules_machine.specs.State.{Machine, Mutex, Timer, Wait}
use Rattle.rules_machine.specs.Threads.{mutex_at, semaphore_at, timer_at}
use Rattle.rules_machine.specs.Waiters.{Waiter, is_served_before, waiters}
use Rattle.rules_facts.specs.Fact.{Arming, Fact, Owner, arming_of, owner, semaphore_value, waiters_of}
use Rattle.rules_facts.specs.Order.{in_order}

-- the threads whose wait passes, in the order of service
abbrev pub in_service_order : {P : Type 0} → Machine P → (Wait → Bool) → List ℕ
in_service_order m passes = map (λ (w : Waiter). w.thread) (in_order is_served_before (waiters m passes))

abbrev pub owner_in : Mutex → Option Owner
owner_in k = option_map (λ (t : ℕ). record { thread = t; count = k.count }) k.owner

abbrev pub owner_fact : {P : Type 0} → Machine P → ℕ → Fact
owner_fact m k = owner k (owner_in (mutex_at m k))

abbrev pub mutex_waiters : {P : Type 0} → Machine P → ℕ → Fact
mutex_waiters m k = waiters_of kind.Mutex k (in_service_order m (waits_for_mutex k))

abbrev pub condition_waiters : {P : Type 0} → Machine P → ℕ → Fact
condition_waiters m c = waiters_of kind.Cond c (in_service_order m (waits_on_condition c))

abbrev pub semaphore_waiters : {P : Type 0} → Machine P → ℕ → Fact
semaphore_waiters m k = waiters_of kind.Sem k (in_service_order m (waits_on_semaphore k))

abbrev pub semaphore_fact : {P : Type 0} → Machine P → ℕ → Fact
semaphore_fact m k = semaphore_value k (semaphore_at m k)

abbrev pub arming_in : Timer → Option Arming
arming_in k = option_map (λ (due : ℕ). record { due = due; interval = k.interval }) k.due

abbrev pub timer_fact : {P : Type 0} → Machine P → ℕ → Fact
timer_fact m k = arming_of k (arming_in (timer_at m k))
