-- Whether a server that is activated at once has consumed nothing that is not planned. A strict server is activated where a run of it
-- opens, and nowhere else, so nothing is asked of it.
use Rattle.std.specs.Prelude.{None, Option, Some, ◌≡◌}
use Rattle.rules_server.specs.declared.ServerKind.{ServerKind}
use Rattle.rules_server.specs.declared.ServerKind.TheVariants as kind
use Rattle.rules_server.specs.Server.{ServerState}

abbrev pub IsUnusedAs : ServerKind → ServerState → Type 0
IsUnusedAs kind.Sporadic s = s.consumed ≡ 0
IsUnusedAs kind.Strict s = Unit {0}

abbrev pub IsUnused : Option ServerState → Type 0
IsUnused None = Unit {0}
IsUnused (Some s) = IsUnusedAs s.kind s
