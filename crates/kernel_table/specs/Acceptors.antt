-- Who accepts a signal.
use Rattle.std.specs.Prelude.{ℕ, Option, option_map}
use Rattle.rules_bodies.specs.declared.cursor.Cursor.{Cursor}
use Rattle.rules_machine.specs.Signals.{acceptor}
use Rattle.rules_machine.specs.State.{SignalRecord, Thread}
use Rattle.rules_machine.specs.Threads.{waiting_in}
use Rattle.rules_machine.specs.Waiters.{Waiter}
use Rattle.kernel_threads.specs.Signals.{signals_awaited}
use Rattle.kernel_table.specs.Table.{Table, machine_with}

-- the signals that a thread waits for
abbrev pub set_awaited : Thread Cursor → ℕ
set_awaited th = signals_awaited (waiting_in th.status)

-- the thread that accepts a record as it is generated
abbrev pub acceptor_in : Table → SignalRecord → Option ℕ
acceptor_in table r = option_map (λ (w : Waiter). w.thread) (acceptor (machine_with table.threads table.mutexes table.timers) r)
