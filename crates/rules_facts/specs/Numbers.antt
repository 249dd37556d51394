-- The numbers of threads that change at each tick: what a thread has run, its top frame, and what is used of its interval and of its
-- server. Which they are is this project's own.
use Rattle.std.specs.Prelude.{List, None, Option, Some, [], flat_map, suc, zero, ℕ, ◌∷◌, ◌++◌, if◌then◌else◌}
use Rattle.words_script.specs.declared.policy.Policy.{Policy}
use Rattle.words_script.specs.declared.policy.Policy.TheVariants as policy
use Rattle.rules_server.specs.Server.{ServerState}
use Rattle.rules_machine.specs.State.{Frame, Machine, Thread}
use Rattle.rules_machine.specs.Threads.{is_live, thread_at, thread_numbers}
use Rattle.rules_facts.specs.Fact.{Number, budget, counted, left_of_unit, used_of_slice}

abbrev pub left_numbers : ℕ → ℕ → List Number
left_numbers t zero = []
left_numbers t (suc left) = left_of_unit t (suc left) ∷ []

-- of the top frame
abbrev pub frame_numbers : {P : Type 0} → ℕ → ℕ → List (Frame P) → List Number
frame_numbers t ticks [] = []
frame_numbers t ticks (f ∷ fs) = counted t ticks f.register f.result f.value ∷ left_numbers t f.left

abbrev pub slice_numbers : ℕ → ℕ → Policy → List Number
slice_numbers t slice (policy.Fifo p) = []
slice_numbers t slice (policy.Rr p) = used_of_slice t slice ∷ []
slice_numbers t slice (policy.Sporadic params) = []
slice_numbers t slice (policy.Strict params) = []

abbrev pub budget_numbers : ℕ → Option ServerState → List Number
budget_numbers t None = []
budget_numbers t (Some s) = budget t s.capacity s.consumed s.activation s.high_total s.refilled_total ∷ []

-- of a thread that lives
abbrev pub numbers_of : {P : Type 0} → ℕ → Thread P → List Number
numbers_of t th = frame_numbers t th.ticks th.frames ++ slice_numbers t th.slice th.policy ++ budget_numbers t th.server

abbrev pub thread_numbers_told : {P : Type 0} → Machine P → ℕ → List Number
thread_numbers_told m t = if is_live (thread_at m t).status then numbers_of t (thread_at m t) else []

-- the threads by number
abbrev pub machine_numbers : {P : Type 0} → Machine P → List Number
machine_numbers m = flat_map (thread_numbers_told m) (thread_numbers m)
