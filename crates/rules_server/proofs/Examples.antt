-- Runs of a server, computed by its definitions. Each server has the high priority 8 and the low priority 2.
use Rattle.std.proofs.Common.{◌≡◌, ℕ, false, [], ◌∷◌, refl}
use Rattle.std.specs.Prelude.{Some}
use Rattle.words_numbers.specs.Parameters.{Parameters}
use Rattle.rules_server.specs.Server.{ServerState, new_server, is_high, assigned, charge_ticks, activate, plan, replenishment, refill, set_high, next_due, totals}

abbrev parameters : ℕ → ℕ → ℕ → Parameters
parameters period budget max = record { high = 8; low = 2; period = period; budget = budget; max = max }

-- Period 10, budget 3. The thread starts at 2, first runs at 9, and is exhausted at 12.
abbrev exhausted : ServerState
exhausted = charge_ticks 3 (new_server (parameters 10 3 4) 2)

-- Its replenishment is due one period after the activation and not after the exhaustion.
due_after_activation : replenishment exhausted ≡ record { amount = 3; due = 12 }
due_after_activation = refl

low_when_exhausted : assigned exhausted ≡ 2
low_when_exhausted = refl

-- So it runs again at once, and is exhausted at 15.
abbrev exhausted_again : ServerState
exhausted_again = plan (charge_ticks 3 (activate 12 (refill (plan exhausted))))

due_again : next_due exhausted_again ≡ Some 22
due_again = refl

told : totals exhausted_again ≡ record { high = 6; init = 3; refilled = 3; capacity = 0 }
told = refl

-- Period 20, budget 5, and one pending replenishment at most. The thread runs two ticks and blocks: it has capacity left, but its
-- priority is low until its replenishment at 20.
abbrev blocked : ServerState
blocked = plan (charge_ticks 2 (new_server (parameters 20 5 1) 0))

low_when_pending : assigned blocked ≡ 2
low_when_pending = refl

high_when_refilled : assigned (refill blocked) ≡ 8
high_when_refilled = refl

-- Another high priority leaves the capacity and the totals.
only_high : totals (set_high 9 blocked) ≡ totals blocked
only_high = refl

-- Period 6, budget 3. Two replenishments are pending, and the older one is carried out.
abbrev older_first : ServerState
older_first = refill (plan (charge_ticks 1 (activate 7 (plan (charge_ticks 2 (new_server (parameters 6 3 4) 2))))))

younger_stays : older_first.pending ≡ record { amount = 1; due = 13 } ∷ []
younger_stays = refl

two_more : older_first.capacity ≡ 2
two_more = refl

-- A server without pending replenishments stays as it is.
nothing_due : refill exhausted ≡ exhausted
nothing_due = refl

abbrev exhausted_is_low : is_high exhausted ≡ false
exhausted_is_low = refl
