-- The moves of one effect or item.
use Rattle.std.specs.Prelude.{List, [], filter, map, nat_lt, not, ℕ, ◌&&◌, ◌∷◌, if◌then◌else◌}
use Rattle.rules_lists.specs.Threads.{stands_in}
use Rattle.rules_lists.specs.Lists.{to_head, to_tail}
use Rattle.rules_machine.specs.State.{Machine}
use Rattle.rules_machine.specs.Threads.{can_run, thread_numbers}
use Rattle.rules_machine.specs.Priorities.{exec}

-- Those that are no longer runnable leave their lists (XSH 2.8.4: a thread list has the runnable threads of one priority).
abbrev pub left_runnable : {P : Type 0} → Machine P → List (List ℕ)
left_runnable m = map (filter (can_run m)) m.lists

-- The direct moves, in order: each runnable thread becomes the tail of its list (XSH 2.8.4 SCHED_FIFO, of a thread that
-- becomes runnable or yields, and SCHED_RR, of a quantum that is used up).
abbrev pub moved_all : {P : Type 0} → Machine P → List ℕ → List (List ℕ) → List (List ℕ)
moved_all m [] lists = lists
moved_all m (t ∷ direct) lists = moved_all m direct (if can_run m t then to_tail t (exec m t) lists else lists)

-- how a priority changed
pub data Shift : Type 0 where
  rose fell stayed : Shift

abbrev pub shift_between : ℕ → ℕ → Shift
shift_between before after = if nat_lt before after then rose else (if nat_lt after before then fell else stayed)

-- how the execution priority changed of a thread that was and is runnable and had no direct move
abbrev pub shift_of : {P : Type 0} → Machine P → List ℕ → Machine P → ℕ → Shift
shift_of before direct m t = if can_run before t && can_run m t && not (stands_in t direct) then shift_between (exec before t) (exec m t) else stayed

-- XSH 2.8.4 and pthread_setschedprio: to the tail of the new list where the priority rose, to its head where it fell. That
-- inheritance and ceilings move a thread in the same way is this project's own.
abbrev pub shifted : Shift → ℕ → ℕ → List (List ℕ) → List (List ℕ)
shifted rose t p lists = to_tail t p lists
shifted fell t p lists = to_head t p lists
shifted stayed t p lists = lists

abbrev pub shifted_all : {P : Type 0} → Machine P → (ℕ → Shift) → List ℕ → List (List ℕ) → List (List ℕ)
shifted_all m shift [] lists = lists
shifted_all m shift (t ∷ ts) lists = shifted_all m shift ts (shifted (shift t) t (exec m t) lists)

-- The direct moves, and then the threads whose execution priority changed, by number. Nothing but the lists changes.
abbrev pub settled : {P : Type 0} → Machine P → List ℕ → Machine P → Machine P
settled before direct m = record m { lists = shifted_all m (shift_of before direct m) (thread_numbers m) (moved_all m direct (left_runnable m)) }
