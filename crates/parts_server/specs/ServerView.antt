-- What contracts see of a `Server`.
use Rattle.rules_server.specs.Server.{ServerState, IsServer}
use Rattle.parts_server.specs.declared.Server.TheInside.{Inside}

abbrev pub server_state : Inside → ServerState
server_state s = record {
  kind = s.kind;
  params = s.params;
  capacity = s.capacity;
  activation = s.activation;
  consumed = s.consumed;
  pending = s.pending.items;
  high_total = s.high_total;
  refilled_total = s.refilled_total;
}

abbrev pub IsInside : Inside → Type 0
IsInside s = IsServer (server_state s)
