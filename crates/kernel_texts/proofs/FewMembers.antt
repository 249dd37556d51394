-- What a thread keeps is not long.
use Rattle.std.proofs.Common.{◌≤◌, None, Option, Some, arith, length}
use Rattle.std.specs.Prelude.{IfSome}
use Rattle.rules_bodies.specs.declared.cursor.Cursor.{Cursor}
use Rattle.rules_server.specs.Server.{ServerState}
use Rattle.rules_machine.specs.State.{Thread}
use Rattle.rules_facts.specs.Threads.{planned}
use Rattle.kernel_texts.specs.Modest.{IsModestThread}

few_planned : (server : Option ServerState) → IfSome server (λ (s : ServerState). length s.pending ≤ 16) → length (planned server) ≤ 112
few_planned None few = omega arith
few_planned (Some s) few = omega (arith, few)

pub thread_modest : (th : Thread Cursor) → length th.frames ≤ 3 → length th.cleanups ≤ 8 → IfSome th.server (λ (s : ServerState). length s.pending ≤ 16) → IsModestThread 112 th
thread_modest th frames cleanups pending = record { frames = omega (arith, frames); cleanups = omega (arith, cleanups); pending = few_planned th.server pending }
