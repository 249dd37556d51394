-- Worked examples. Eventful instants, what is to come, and the account of a server.
use Rattle.std.proofs.Common.{List, [], arith, ◌∷◌, ◌≡◌, Some, refl}
use Rattle.std.specs.Prelude.{codes}
use Rattle.words_numbers.specs.declared.item.Item.TheVariants as item
use Rattle.rules_server.specs.declared.ServerKind.TheVariants as server_kind
use Rattle.rules_server.specs.Server.{ServerState}
use Rattle.words_script.specs.declared.call.Call.TheVariants as call
use Rattle.words_script.specs.declared.policy.Policy.TheVariants as policy
use Rattle.words_script.specs.declared.decl.Decl.TheVariants as decl
use Rattle.words_script.specs.declared.decl.Kind.TheVariants as kind
use Rattle.words_script.specs.Block.{Nothing, Running, Making}
use Rattle.words_script.specs.declared.decl.Script.{Script}
use Rattle.rules_machine.specs.Priorities.{exec_in}
use Rattle.rules_machine.specs.Runs.{opening}
use Rattle.rules_machine.specs.Machine.{machine, bodies_of}
use Rattle.rules_machine.specs.Promises.{busy_between}
use Rattle.rules_machine.specs.Agenda.{agenda, coming_at}
use Rattle.rules_machine.specs.Budget.{KeepsAccount, ServerEvent, account, account_after, activated, planned, refilled, used}
use Rattle.rules_machine.proofs.Examples.Servers.{six_high_ticks_in_one_period_script}

abbrev two_sleepers_and_a_runner : Script
two_sleepers_and_a_runner = record {
  version = 1;
  quantum = 10;
  decls =
      decl.Named (codes "a") (kind.Thread (policy.Fifo 5) (Some 0) (Making (call.Nanosleep 60) Nothing))
      ∷ decl.Named (codes "b") (kind.Thread (policy.Fifo 6) (Some 0) (Making (call.Nanosleep 50) Nothing))
      ∷ decl.Named (codes "c") (kind.Thread (policy.Fifo 1) (Some 0) (Running 100 Nothing))
      ∷ [];
}

-- Of a hundred instants six are eventful: both calls complete, both sleeps end, and both threads finish.
pub six_eventful_instants_of_a_hundred : busy_between two_sleepers_and_a_runner 0 100 ≡ 6
unfolding exec_in
six_eventful_instants_of_a_hundred = refl

-- The account of a server that is used up twice: each plan is of the ticks since the activation, and due a period after it.
pub account_of_six_high_ticks : account (bodies_of six_high_ticks_in_one_period_script) 0 (opening six_high_ticks_in_one_period_script) 17
    ≡ activated 2 ∷ used ∷ used ∷ used ∷ planned 12 (record { amount = 3; due = 12 }) ∷ refilled 12 3 ∷ activated 12
    ∷ used ∷ used ∷ used ∷ planned 15 (record { amount = 3; due = 22 }) ∷ []
unfolding exec_in
account_of_six_high_ticks = refl

-- Between two items of an instant: the refill is made, and is in the account.
pub account_between_items : account_after (bodies_of six_high_ticks_in_one_period_script) (opening six_high_ticks_in_one_period_script) 0 12 1
    ≡ activated 2 ∷ used ∷ used ∷ used ∷ planned 12 (record { amount = 3; due = 12 }) ∷ refilled 12 3 ∷ activated 12 ∷ []
unfolding exec_in
account_between_items = refl

-- Three ticks after its start the two sleeps are to come, and before it the three starts.
pub three_starts_are_to_come : agenda (machine two_sleepers_and_a_runner 0) ≡ coming_at (item.Start 0) 0 ∷ coming_at (item.Start 1) 0 ∷ coming_at (item.Start 2) 0 ∷ []
unfolding exec_in
three_starts_are_to_come = refl

pub two_sleeps_are_to_come : agenda (machine two_sleepers_and_a_runner 3) ≡ coming_at (item.Timeout 0) 62 ∷ coming_at (item.Timeout 1) 51 ∷ []
unfolding exec_in
two_sleeps_are_to_come = refl

-- The account of a plan that no activation stands before.
abbrev spent : ServerState
spent = record { kind = server_kind.Sporadic; params = record { high = 2; low = 1; period = 5; budget = 1; max = 1 }; capacity = 0; activation = 0; consumed = 0; pending = record { amount = 1; due = 5 } ∷ []; high_total = 1; refilled_total = 0 }

abbrev planned_from_nowhere : List ServerEvent
planned_from_nowhere = used ∷ planned 1 (record { amount = 1; due = 5 }) ∷ []

pub a_plan_follows_an_activation : KeepsAccount spent planned_from_nowhere → ⊥
a_plan_follows_an_activation law = let none = law.follows in absurd (grind arith)
