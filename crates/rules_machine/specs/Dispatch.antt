-- The dispatch: XSH 2.8.4, the thread at the head of the highest list that is not empty runs.
use Rattle.std.specs.Prelude.{Bool, None, Option, Some, false, is_some, true, ℕ, ◌==◌, if◌then◌else◌}
use Rattle.words_trace.specs.declared.event.Event.{Event}
use Rattle.words_trace.specs.declared.event.Event.TheVariants as event
use Rattle.rules_lists.specs.Lists.{highest}
use Rattle.rules_machine.specs.declared.dispatch.LastDispatch.{LastDispatch}
use Rattle.rules_machine.specs.declared.dispatch.LastDispatch.TheVariants as last
use Rattle.rules_machine.specs.State.{Machine}
use Rattle.rules_machine.specs.Priorities.{exec}
use Rattle.rules_machine.specs.Turns.{Turn, becomes, tells, ◌▷◌}

-- the thread that runs next, or none where all lists are empty
abbrev pub head : {P : Type 0} → Machine P → Option ℕ
head m = highest m.lists

-- the thread that a tick is given to: the head, or nobody where the process has ended
abbrev pub runner : {P : Type 0} → Machine P → Option ℕ
runner m = if is_some m.killed then None else head m

abbrev pub dispatch_of : Option ℕ → LastDispatch
dispatch_of None = last.Idle
dispatch_of (Some t) = last.Ran t

-- whether the last tick was given to the same
abbrev pub is_same : LastDispatch → Option ℕ → Bool
is_same last.NoTick to = false
is_same last.Idle None = true
is_same last.Idle (Some t) = false
is_same (last.Ran u) None = false
is_same (last.Ran u) (Some t) = u == t

abbrev pub dispatch_event : {P : Type 0} → Machine P → Option ℕ → Event
dispatch_event m None = event.Idle
dispatch_event m (Some t) = event.Dispatch t (exec m t)

abbrev pub tells_unless : {P : Type 0} → Bool → Event → Turn P → Turn P
tells_unless true e s = s
tells_unless false e s = tells e s

-- The processor is given to the head; it is told where that is a change, and at the first tick. A change of the same thread's
-- priority is not told.
abbrev pub dispatches : {P : Type 0} → Option ℕ → Turn P → Turn P
dispatches to s = s ▷ tells_unless (is_same s.machine.last to) (dispatch_event s.machine to) ▷ becomes (λ m. record m { last = dispatch_of to })
