-- Runs of a strict server, computed by its definitions.
use Rattle.std.proofs.Common.{◌≡◌, ℕ, true, false, List, [], ◌∷◌, ◌++◌, refl}
use Rattle.std.specs.Prelude.{None}
use Rattle.words_numbers.specs.Parameters.{Parameters}
use Rattle.rules_server.specs.declared.ServerKind.TheVariants as kind
use Rattle.rules_server.specs.Server.{ServerState, new_server_as, totals}
use Rattle.laws_strict_server.specs.Instants.{Step, after}

abbrev parameters : ℕ → ℕ → ℕ → Parameters
parameters period budget max = record { high = 8; low = 2; period = period; budget = budget; max = max }

abbrev rests : Step
rests = record { is_head = false; blocks = false; priority = None }

abbrev runs : Step
runs = record { is_head = true; blocks = false; priority = None }

-- Period 10, budget 3. The thread starts at 2 and first runs at 9: three ticks, and nothing comes back before 19.
abbrev late : List Step
late = rests ∷ rests ∷ rests ∷ rests ∷ rests ∷ rests ∷ rests ∷ []

abbrev eight : List Step
eight = runs ∷ runs ∷ runs ∷ runs ∷ runs ∷ runs ∷ runs ∷ runs ∷ []

abbrev late_run : ServerState
late_run = after (late ++ eight) 2 (new_server_as kind.Strict (parameters 10 3 4) 2)

late_told : totals late_run ≡ record { high = 3; init = 3; refilled = 0; capacity = 0 }
late_told = refl

late_pending : late_run.pending ≡ record { amount = 3; due = 19 } ∷ []
late_pending = refl

-- Period 10, budget 4, one pending replenishment at most. Two ticks are preempted at 2, and two more from 4 on join them.
abbrev preempted : List Step
preempted = runs ∷ runs ∷ rests ∷ rests ∷ runs ∷ runs ∷ []

abbrev joined_run : ServerState
joined_run = after preempted 0 (new_server_as kind.Strict (parameters 10 4 1) 0)

joined_pending : joined_run.pending ≡ record { amount = 4; due = 14 } ∷ []
joined_pending = refl

-- eight ticks more at the low priority, and from 14 on at the high one
abbrev joined_later : ServerState
joined_later = after (eight ++ (runs ∷ runs ∷ [])) 6 joined_run

joined_told : totals joined_later ≡ record { high = 6; init = 4; refilled = 4; capacity = 2 }
joined_told = refl
