-- A server that is charged still stands beside its policy, and what it used can be planned.
use Rattle.std.proofs.Common.{◌≡◌, ◌+◌, ◌-◌, ℕ, Bool, true, false, None, Some, Option, length, refl, rules}
use Rattle.std.specs.Prelude.{option_map, if◌then◌else◌}
use Rattle.words_script.specs.declared.policy.Policy.{Policy}
use Rattle.words_script.specs.declared.policy.Policy.TheVariants as policy
use Rattle.rules_server.specs.declared.ServerKind.{ServerKind}
use Rattle.rules_server.specs.declared.ServerKind.TheVariants as kind
use Rattle.rules_server.specs.Calls.{MayPlanAs}
use Rattle.rules_server.specs.Server.{ServerState, charge_ticks, is_high, is_high_as}
use Rattle.rules_server.proofs.Laws.{charge_ticks_is}
use Rattle.rules_machine.specs.GoodState.{HasParameters}
use Rattle.rules_leaps.specs.Quiet.{server_after}
use Rattle.kernel_threads.specs.Held.{IsHeld}

room_as : (k : ServerKind) (capacity pending max : ℕ) → is_high_as k capacity pending max ≡ true → MayPlanAs k pending max
room_as kind.Sporadic capacity pending max high = search rules
room_as kind.Strict capacity pending max high = tt

held_of : (k : ℕ) (p : Policy) (s : ServerState) (high : Bool) → is_high s ≡ high → IsHeld p (Some s) → IsHeld p (Some (if high then charge_ticks k s else s))
held_of k p s false e h = h
held_of k p s true e h = rw (charge_ticks_is k s) (record { parameters = same p h.parameters; room = λ used. room_as s.kind s.capacity (length s.pending) s.params.max e })
  where
    same : (p : Policy) → HasParameters p (Some s) → HasParameters p (Some (record s { capacity = s.capacity - k; consumed = s.consumed + k; high_total = s.high_total + k }))
    same (policy.Fifo q) h = search rules
    same (policy.Rr q) h = search rules
    same (policy.Sporadic params) h = h
    same (policy.Strict params) h = h

pub held_after : (k : ℕ) (p : Policy) (o : Option ServerState) → IsHeld p o → IsHeld p (option_map (server_after k) o)
held_after k p None h = h
held_after k p (Some s) h = held_of k p s (is_high s) refl h
