-- Which signals end the process.
use Rattle.std.specs.Prelude.{◌≡◌, ◌<◌, ◌&&◌, ℕ, List, length, nat_lt, slice_index_or}
use Rattle.words_numbers.specs.Signals.{has_signal}
use Rattle.rules_machine.specs.declared.signal.SigAction.{SigAction}
use Rattle.rules_machine.specs.declared.signal.SigAction.TheVariants as action
use Rattle.rules_machine.specs.Signals.{is_kill}

-- of the signals below a limit, the set has those whose action ends the process, and it has no other of the 32
pub record Kills (actions : List SigAction) (limit kills : ℕ) : Type 0 where
  pub each : (signal : ℕ) → signal < 32 → has_signal kills signal ≡ (nat_lt signal limit && is_kill (slice_index_or actions signal action.Kill))

pub record AreActions (actions : List SigAction) (kills : ℕ) : Type 0 where
  pub long : length actions ≡ 32
  pub known : Kills actions 32 kills
