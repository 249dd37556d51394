-- What falls due, and how it is handled: replenishments (XSH 2.8.4), timeouts and the ends of sleeps (XSH 2.8.5), and the expiries
-- of timers (timer_settime). Starts at a tick, and the order of items, are this project's own.
use Rattle.std.specs.Prelude.{Bool, List, None, Option, Some, [], false, filter, length, map, nat_le, option_and_then, suc, zero, ℕ, ◌+◌, ◌∷◌, ◌++◌}
use Rattle.words_numbers.specs.declared.item.Item.{Item}
use Rattle.words_numbers.specs.declared.item.Item.TheVariants as item
use Rattle.words_numbers.specs.declared.res.Res.TheVariants as res
use Rattle.rules_server.specs.Server.{ServerState, next_due}
use Rattle.rules_machine.specs.declared.thread.CondEnd.TheVariants as cond_end
use Rattle.rules_machine.specs.Lists.{numbers}
use Rattle.rules_machine.specs.Bodies.{Bodies}
use Rattle.rules_machine.specs.State.{Machine, Status, Thread, Wait, Waiting, blocked, dormant, ended, for_condition, for_signal, for_time, runnable}
use Rattle.rules_machine.specs.Threads.{thread_at, thread_numbers, timer_at, waiting_of}
use Rattle.rules_machine.specs.Turns.{Turn, settles_since, ◌▷◌}
use Rattle.rules_machine.specs.Servers.{refills}
use Rattle.rules_machine.specs.Waking.{starts, wakes}
use Rattle.rules_machine.specs.Conditions.{contends}
use Rattle.rules_machine.specs.Delivery.{sweeps}
use Rattle.rules_machine.specs.Timers.{expires}

-- ---- when something is due

abbrev pub refill_due : {P : Type 0} → Machine P → ℕ → Option ℕ
refill_due m t = option_and_then next_due (thread_at m t).server

abbrev pub start_in : Status → Option ℕ
start_in (dormant at) = at
start_in runnable = None
start_in (blocked w) = None
start_in ended = None

abbrev pub start_due : {P : Type 0} → Machine P → ℕ → Option ℕ
start_due m t = start_in (thread_at m t).status

abbrev pub timeout_due : {P : Type 0} → Machine P → ℕ → Option ℕ
timeout_due m t = option_and_then (λ (w : Waiting). w.due) (waiting_of m t)

abbrev pub timer_due : {P : Type 0} → Machine P → ℕ → Option ℕ
timer_due m k = (timer_at m k).due

-- whether a due tick is now or has passed
abbrev pub has_come : Option ℕ → ℕ → Bool
has_come None now = false
has_come (Some due) now = nat_le due now

-- those of one kind that are due, by number
abbrev pub due_of_kind : {P : Type 0} → (ℕ → Item) → (Machine P → ℕ → Option ℕ) → List ℕ → Machine P → List Item
due_of_kind kind due ns m = map kind (filter (λ (n : ℕ). has_come (due m n) m.now) ns)

-- all that is due, in the order of the items' numbers
abbrev pub due_items : {P : Type 0} → Machine P → List Item
due_items m =
    due_of_kind item.Refill refill_due (thread_numbers m) m
    ++ due_of_kind item.Start start_due (thread_numbers m) m
    ++ due_of_kind item.Timeout timeout_due (thread_numbers m) m
    ++ due_of_kind item.Timer timer_due (numbers m.timers) m

-- the least item, unless the process has ended
abbrev pub first_item : Option ℕ → List Item → Option Item
first_item (Some signal) items = None
first_item None [] = None
first_item None (i ∷ items) = Some i

abbrev pub next_item : {P : Type 0} → Machine P → Option Item
next_item m = first_item m.killed (due_items m)

-- ---- timeouts

-- what a wait comes to at its time: a sleep ends, a timed call is refused, and a condition wait has the mutex to own again first
abbrev pub wait_times_out : {P : Type 0} → Wait → ℕ → Turn P → Turn P
wait_times_out (for_condition c k) t s = contends t cond_end.Timedout s
wait_times_out for_time t s = wakes t res.Zero 0 s
wait_times_out (for_signal set) t s = wakes t res.Again 0 s
wait_times_out wait t s = wakes t res.Timedout 0 s

abbrev pub times_out : {P : Type 0} → Option Waiting → ℕ → Turn P → Turn P
times_out None t s = s
times_out (Some w) t s = wait_times_out w.wait t s

-- ---- the items of an instant

abbrev pub pending_count : Option ServerState → ℕ
pending_count None = 0
pending_count (Some server) = length server.pending

abbrev pub items_of_threads : {P : Type 0} → List (Thread P) → ℕ
items_of_threads [] = 0
items_of_threads (th ∷ ths) = pending_count th.server + 2 + items_of_threads ths

-- No instant has more items than that: the pending replenishments, a start and a timeout of each thread, and an expiry of each timer.
abbrev pub item_bound : {P : Type 0} → Machine P → ℕ
item_bound m = items_of_threads m.threads + length m.timers

module _ {P : Type 0} (bodies : Bodies P) where
  abbrev pub handles : Item → Turn P → Turn P
  handles (item.Refill t) s = refills t s
  handles (item.Start t) s = starts bodies t 0 s
  handles (item.Timeout t) s = times_out (waiting_of s.machine t) t s
  handles (item.Timer k) s = expires k s

  -- one item, its moves, and the sweep
  abbrev pub item_done : Item → Turn P → Turn P
  item_done i s = s ▷ handles i ▷ settles_since s.machine ▷ sweeps bodies

  abbrev pub item_then : Option Item → (Turn P → Turn P) → Turn P → Turn P
  item_then None rest s = s
  item_then (Some i) rest s = rest (item_done i s)

  -- the next item again and again, so many at most
  abbrev pub items_done : ℕ → Turn P → Turn P
  items_done zero s = s
  items_done (suc most) s = item_then (next_item s.machine) (items_done most) s

  -- all items of the instant
  abbrev pub instant : Turn P → Turn P
  instant s = items_done (item_bound s.machine) s
