-- What a settling promises, and how the kernel makes it: what the execution priority of a thread was, it reads off the list on which the
-- thread stands.
use Rattle.std.specs.Prelude.{List, None, Option, Some, [], length, ℕ, ◌≡◌, ◌≤◌, ◌<◌, ◌∷◌, if◌then◌else◌}
use Rattle.rules_bodies.specs.declared.cursor.Cursor.{Cursor}
use Rattle.rules_lists.specs.Lists.{prio_of, to_tail, without}
use Rattle.rules_machine.specs.State.{Machine}
use Rattle.rules_machine.specs.Threads.{can_run, thread_numbers}
use Rattle.rules_machine.specs.Priorities.{exec}
use Rattle.rules_machine.specs.Settling.{left_runnable, moved_all, shift_between, shifted}
use Rattle.rules_machine.specs.Turns.{settles_since}
use Rattle.kernel_state.specs.Kernel.{Kernel, after}
use Rattle.kernel_settling.specs.Stood.{StoodRight}

-- The moves of the rules, of what was done since any machine whose threads stood right, on the lists that stand yet.
abbrev pub Settles : Kernel → Kernel → Type 0
Settles old new = (before : Machine Cursor) → StoodRight before → old.machine.lists ≡ before.lists → new ≡ after (settles_since before) old

-- ---- how it is made

-- to the tail where the priority rose, to the head where it fell
abbrev pub shifted_from : Option ℕ → ℕ → ℕ → List (List ℕ) → List (List ℕ)
shifted_from None t p lists = lists
shifted_from (Some before) t p lists = shifted (shift_between before p) t p lists

abbrev pub placed : {P : Type 0} → Machine P → ℕ → List (List ℕ) → List (List ℕ)
placed m t lists = if can_run m t then shifted_from (prio_of t lists) t (exec m t) lists else lists

abbrev pub placed_all : {P : Type 0} → Machine P → List ℕ → List (List ℕ) → List (List ℕ)
placed_all m [] lists = lists
placed_all m (t ∷ ts) lists = placed_all m ts (placed m t lists)

-- one direct move
abbrev pub moved : {P : Type 0} → Machine P → ℕ → List (List ℕ) → List (List ℕ)
moved m t lists = if can_run m t then to_tail t (exec m t) lists else lists

-- a thread that is not runnable leaves its list
abbrev pub left_one : {P : Type 0} → Machine P → ℕ → List (List ℕ) → List (List ℕ)
left_one m t lists = if can_run m t then lists else without t lists

abbrev pub settled_now : Kernel → Kernel
settled_now k = record k {
  machine = record (k.machine) { lists = placed_all k.machine (thread_numbers k.machine) (moved_all k.machine k.direct (left_runnable k.machine)) };
  direct = [];
}

-- ---- what every priority is

pub record HavePriorities {P : Type 0} (m : Machine P) : Type 0 where
  pub positive : (t : ℕ) → t < length m.threads → 1 ≤ exec m t
  pub small : (t : ℕ) → exec m t ≤ 255
