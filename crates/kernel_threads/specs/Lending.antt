-- What a table of threads ends as, where a `&mut` to one is returned.
use Rattle.std.specs.Prelude.{ℕ, List, slice_set}
use Rattle.std.specs.Borrow.{Lends, MutBor, Fml}
use Rattle.rules_bodies.specs.declared.cursor.Cursor.{Cursor}
use Rattle.rules_machine.specs.State as machine
use Rattle.kernel_threads.specs.contracts.threads.Threads.{the_row}
use Rattle.kernel_threads.specs.contracts.thread.Thread as thread

-- the thread alone is as it was left, and the others stay
abbrev pub LendsThread : MutBor (List (machine.Thread Cursor)) → ℕ → MutBor (machine.Thread Cursor) → Fml
LendsThread threads t r = Lends the_row thread.the_row threads r (slice_set threads.now t)
