-- The threads, mutexes and timers that a table stands for.
use Rattle.kernel_table.specs.declared.table.Table.TheInside.{Inside}
use Rattle.kernel_table.specs.Table.{Table}
use Rattle.kernel_table.specs.RealItems.{AreKept}
use Rattle.kernel_table.specs.Tied.{AreArmed, IsTied}

abbrev pub table_of : Inside → Table
table_of t = record { threads = t.threads; mutexes = t.chain.mutexes; timers = t.timers }

pub record IsInside (t : Inside) : Type 0 where
  pub tied : IsTied t.threads t.chain t.waits
  pub armed : AreArmed t.threads t.timers t.wheel.dues
  pub kept : AreKept t.threads t.timers t.real_waits t.real_expiries
