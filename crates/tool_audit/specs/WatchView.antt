-- What contracts see of the watch of a server.
use Rattle.tool_audit.specs.Watch.{Watched}
use Rattle.tool_audit.specs.declared.watched.ServerWatch.TheInside.{Inside}

abbrev pub watched_of : Inside → Watched
watched_of i = record { server = record { name = i.name; limits = i.account.limits }; account = i.account.account; closed = i.closed }
