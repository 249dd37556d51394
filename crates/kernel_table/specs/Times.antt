-- When the items of a thread are due, and the least due tick of all that is to come.
use Rattle.std.specs.Prelude.{◌*◌, ◌^◌, ◌∷◌, ℕ, List, [], None, Option, Some, if◌then◌else◌, nat_le, option_and_then}
use Rattle.rules_bodies.specs.declared.cursor.Cursor.{Cursor}
use Rattle.rules_server.specs.Server.{next_due}
use Rattle.rules_machine.specs.Agenda.{Coming}
use Rattle.rules_machine.specs.DueItems.{start_in}
use Rattle.rules_machine.specs.State.{Thread, Waiting}
use Rattle.rules_machine.specs.Threads.{waiting_in}
use Rattle.parts_wheel.specs.Dues.{earlier}

-- No instant is later than this.
abbrev pub last_instant : ℕ
last_instant = 3 * 10 ^ 18

-- the tick, where it is an instant
abbrev pub in_time : Option ℕ → Option ℕ
in_time None = None
in_time (Some at) = if nat_le at last_instant then Some at else None

abbrev pub refill_of : Thread Cursor → Option ℕ
refill_of th = option_and_then next_due th.server

abbrev pub start_of : Thread Cursor → Option ℕ
start_of th = in_time (start_in th.status)

abbrev pub timeout_of : Thread Cursor → Option ℕ
timeout_of th = option_and_then (λ (w : Waiting). w.due) (waiting_in th.status)

-- None where nothing is to come
abbrev pub least_due : List Coming → Option ℕ
least_due [] = None
least_due (c ∷ comings) = earlier (Some c.due) (least_due comings)
