-- Everything that is to come, with its due tick, read off the records. Of this list the items of an instant are those that are due.
use Rattle.std.specs.Prelude.{Bool, List, Option, filter, filter_map, map, nat_le, option_map, ℕ, ◌++◌}
use Rattle.words_numbers.specs.declared.item.Item.{Item}
use Rattle.words_numbers.specs.declared.item.Item.TheVariants as item
use Rattle.rules_machine.specs.Lists.{numbers}
use Rattle.rules_machine.specs.State.{Machine}
use Rattle.rules_machine.specs.Threads.{thread_numbers}
use Rattle.rules_machine.specs.DueItems.{refill_due, start_due, timeout_due, timer_due}

pub record Coming : Type 0 where
  pub item : Item
  pub due : ℕ

abbrev pub coming_at : Item → ℕ → Coming
coming_at i due = record { item = i; due = due }

-- those of one kind, by number
abbrev pub coming_of : {P : Type 0} → (ℕ → Item) → (Machine P → ℕ → Option ℕ) → List ℕ → Machine P → List Coming
coming_of kind due ns m = filter_map (λ (n : ℕ). option_map (coming_at (kind n)) (due m n)) ns

-- The first pending replenishment of each server, the starts of dormant threads, the ends of waits, and the expiries of timers,
-- in the order of the items' numbers.
abbrev pub agenda : {P : Type 0} → Machine P → List Coming
agenda m =
    coming_of item.Refill refill_due (thread_numbers m) m
    ++ coming_of item.Start start_due (thread_numbers m) m
    ++ coming_of item.Timeout timeout_due (thread_numbers m) m
    ++ coming_of item.Timer timer_due (numbers m.timers) m

-- those of them that are due at an instant
abbrev pub due_by : ℕ → Coming → Bool
due_by now c = nat_le c.due now

abbrev pub items_due : ℕ → List Coming → List Item
items_due now comings = map (λ (c : Coming). c.item) (filter (due_by now) comings)
