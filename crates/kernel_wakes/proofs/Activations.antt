-- A server that is activated has consumed nothing that is not planned.
use Rattle.std.proofs.Common.{Bool, None, Option, Some, arith, false, refl, true, ℕ, ◌≡◌}
use Rattle.std.specs.Prelude.{option_map, if◌then◌else◌}
use Rattle.rules_server.specs.declared.ServerKind.{ServerKind}
use Rattle.rules_server.specs.declared.ServerKind.TheVariants as kind
use Rattle.rules_server.specs.Server.{ServerState, is_high}
use Rattle.rules_machine.specs.Servers.{at_once, at_once_as, high_server}
use Rattle.rules_machine.specs.Ticks.{consumed_in}
use Rattle.kernel_threads.specs.Unused.{IsUnused, IsUnusedAs}

by_kind : (k : ServerKind) (s : ServerState) (c : ℕ) → IsUnusedAs k s → option_map (λ (x : ServerState). x.capacity) (at_once_as k s) ≡ Some c → s.consumed ≡ 0
by_kind kind.Sporadic s c h e = h
by_kind kind.Strict s c h e = absurd (grind arith)

pub some_unused : (o : Option ServerState) (c : ℕ) → IsUnused o → option_map (λ (x : ServerState). x.capacity) (at_once o) ≡ Some c → consumed_in o ≡ 0
some_unused None c h e = refl
some_unused (Some s) c h e = by_kind s.kind s c h e

pub high_unused : (o : Option ServerState) (c : ℕ) → IsUnused o → option_map (λ (x : ServerState). x.capacity) (at_once (high_server o)) ≡ Some c → consumed_in o ≡ 0
high_unused None c h e = refl
high_unused (Some s) c h e = by_high (is_high s) e
  where
    by_high : (b : Bool) → option_map (λ (x : ServerState). x.capacity) (at_once (if b then Some s else None)) ≡ Some c → s.consumed ≡ 0
    by_high true e = by_kind s.kind s c h e
    by_high false e = absurd (grind arith)
