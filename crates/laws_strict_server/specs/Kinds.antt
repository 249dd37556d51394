-- What a strict server's definitions come to. That kind is this project's own.
use Rattle.std.specs.Prelude.{Bool, length}
use Rattle.rules_server.specs.declared.ServerKind.TheVariants as kind
use Rattle.rules_server.specs.Server.{ServerState, is_high_as, joins_as, planned_in, replenishment}

abbrev pub is_high_strict : ServerState → Bool
is_high_strict s = is_high_as kind.Strict s.capacity (length s.pending) s.params.max

abbrev pub plan_strict : ServerState → ServerState
plan_strict s = record s { consumed = 0; pending = planned_in (joins_as kind.Strict (length s.pending) s.params.max) (replenishment s) s.pending }
