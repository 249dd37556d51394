-- The rules of a tick's end, and what a plan and a refill did.
use Rattle.std.specs.Prelude.{ℕ, length, nat_lt, ◌+◌, ◌==◌}
use Rattle.words_script.specs.declared.policy.Policy.{Policy}
use Rattle.words_script.specs.declared.policy.Policy.TheVariants as policy
use Rattle.rules_server.specs.Server.{ServerState, oldest_pending, refill, replenishment}
use Rattle.rules_machine.specs.Servers.{amount_of, regains_high}
use Rattle.rules_machine.specs.Ticks as ticks
use Rattle.kernel_threads.specs.declared.ends.TickEnd.{TickEnd}
use Rattle.kernel_threads.specs.declared.ends.TickEnd.TheVariants as end
use Rattle.kernel_threads.specs.declared.ends.Planned.{Planned}
use Rattle.kernel_threads.specs.declared.ends.Refilled.{Refilled}

abbrev pub end_of : TickEnd → ticks.TickEnd
end_of end.Planning = ticks.planning
end_of end.Exhausting = ticks.exhausting
end_of end.Slicing = ticks.slicing
end_of end.Nothing = ticks.nothing

abbrev pub refilled_of : ServerState → Refilled
refilled_of s = record { amount = amount_of (oldest_pending s); capacity = (refill s).capacity; regains_high = regains_high s }

-- how many replenishments may be pending under that policy
abbrev pub greatest_pending : Policy → ℕ
greatest_pending (policy.Fifo p) = 0
greatest_pending (policy.Rr p) = 0
greatest_pending (policy.Sporadic params) = params.max
greatest_pending (policy.Strict params) = params.max

abbrev pub planned_of : ServerState → Planned
planned_of s = record { replenish = replenishment s; is_first = length s.pending == 0; has_room = nat_lt (length s.pending + 1) s.params.max }
