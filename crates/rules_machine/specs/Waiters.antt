-- Who waits, and who is served first.
use Rattle.std.specs.Prelude.{Bool, List, None, Option, Some, false, filter_map, nat_lt, ℕ, ◌==◌, ◌&&◌, ◌||◌}
use Rattle.std.specs.List.{list_any}
use Rattle.std.specs.Option.{option_map_or}
use Rattle.rules_machine.specs.Lists.{first_by, numbers_where}
use Rattle.rules_machine.specs.State.{Machine, Thread, Wait, Waiting}
use Rattle.rules_machine.specs.Threads.{waiting_in, waiting_of}
use Rattle.rules_machine.specs.Priorities.{exec}

-- whether a thread waits for something that passes
abbrev pub waits_so : {P : Type 0} → (Wait → Bool) → Thread P → Bool
waits_so passes th = option_map_or (λ (w : Waiting). passes w.wait) (waiting_in th.status) false

abbrev pub somebody_waits : {P : Type 0} → Machine P → (Wait → Bool) → Bool
somebody_waits m passes = list_any (waits_so passes) m.threads

-- a waiter with what the order goes by
pub record Waiter : Type 0 where
  pub thread : ℕ
  pub waiting : Waiting
  pub priority : ℕ

abbrev pub waiter_of : ℕ → ℕ → Option Waiting → Option Waiter
waiter_of t priority None = None
waiter_of t priority (Some w) = Some (record { thread = t; waiting = w; priority = priority })

abbrev pub waiters : {P : Type 0} → Machine P → (Wait → Bool) → List Waiter
waiters m passes = filter_map (λ (t : ℕ). waiter_of t (exec m t) (waiting_of m t)) (numbers_where (waits_so passes) m.threads)

-- XSH 2.8.4 and sem_post, mq_send, pthread_cond_signal: the highest priority thread first, and among equals the one that has
-- waited longest. Among threads in sigwaitinfo this choice is this project's own.
abbrev pub is_served_before : Waiter → Waiter → Bool
is_served_before a b = nat_lt b.priority a.priority || (a.priority == b.priority && nat_lt a.waiting.serial b.waiting.serial)

abbrev pub best_waiter : {P : Type 0} → Machine P → (Wait → Bool) → Option Waiter
best_waiter m passes = first_by is_served_before (waiters m passes)
