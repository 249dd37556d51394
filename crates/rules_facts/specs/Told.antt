-- Who is told first: at the head of the first list that is not empty, and among those who wait.
use Rattle.std.specs.Prelude.{◌≡◌, Bool, List, None, Option, filter_map, option_map, slice_get, ℕ}
use Rattle.words_script.specs.declared.decl.Script.{Script}
use Rattle.rules_machine.specs.Dispatch.{head}
use Rattle.rules_machine.specs.State.{Machine, Wait}
use Rattle.rules_machine.specs.Waiters.{Waiter, best_waiter}
use Rattle.rules_facts.specs.Fact.{Fact, on_list}
use Rattle.rules_facts.specs.Facts.{facts}
use Rattle.rules_facts.specs.Objects.{in_service_order}
use Rattle.rules_facts.specs.Shown.{machine_at, shown_machine}

-- the head of the list that a fact tells, if it tells one that is not empty
abbrev pub head_told : Fact → Option ℕ
head_told (on_list p threads) = slice_get threads 0
head_told f = None

-- the head of the first list that is not empty
abbrev pub first_told : List Fact → Option ℕ
first_told told = slice_get (filter_map head_told told) 0

-- `show n` tells at the head of its first list to whom tick n is given, and no list where it is given to nobody
abbrev pub ShowsHead : Script → ℕ → Type 0
ShowsHead script n = first_told (facts script (shown_machine script n)) ≡ head (machine_at script n)

-- the waiter that is told first is the one that is served
abbrev pub TellsBestWaiter : {P : Type 0} → Machine P → (Wait → Bool) → Type 0
TellsBestWaiter m passes = slice_get (in_service_order m passes) 0 ≡ option_map (λ (w : Waiter). w.thread) (best_waiter m passes)
