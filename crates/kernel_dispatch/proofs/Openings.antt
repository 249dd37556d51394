-- A server whose run may be opened has consumed nothing that is not planned.
use Rattle.std.proofs.Common.{Bool, None, Option, Some, arith, refl, ℕ, ◌≡◌}
use Rattle.std.specs.Prelude.{option_map, ◌==◌, ◌&&◌, if◌then◌else◌}
use Rattle.rules_server.specs.Server.{ServerState, is_high}
use Rattle.rules_machine.specs.Servers.{is_strict, opening_server}
use Rattle.rules_machine.specs.Ticks.{consumed_in}

pub opening_unused : (o : Option ServerState) (c : ℕ) → option_map (λ (x : ServerState). x.capacity) (opening_server o) ≡ Some c → consumed_in o ≡ 0
opening_unused None c e = refl
opening_unused (Some s) c e = by_may (is_strict s.kind) (is_high s) e
  where
    by_may : (a b : Bool) → option_map (λ (x : ServerState). x.capacity) (if a && b && s.consumed == 0 then Some s else None) ≡ Some c → s.consumed ≡ 0
    by_may a b e = grind arith
