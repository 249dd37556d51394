-- What signals find of a thread.
use Rattle.std.specs.Prelude.{ℕ, Bool, None, Option, Some, false, not}
use Rattle.std.specs.Option.{option_map_or}
use Rattle.rules_machine.specs.Delivery.{defers_handlers}
use Rattle.rules_machine.specs.State.{Status, Wait, Waiting, for_signal}
use Rattle.rules_machine.specs.Threads.{waiting_in}

-- whether it may run a handler as it is: `may_run_handler` of the machine
abbrev pub runs_handlers : Status → Bool
runs_handlers status = not (option_map_or (λ (w : Waiting). defers_handlers w.wait) (waiting_in status) false)

-- the signals that a wait is for
abbrev pub signals_in : Wait → ℕ
signals_in (for_signal set) = set
signals_in wait = 0

abbrev pub signals_awaited : Option Waiting → ℕ
signals_awaited None = 0
signals_awaited (Some w) = signals_in w.wait
