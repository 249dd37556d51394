-- A mutex that is put back as it is changes nothing.
use Rattle.std.proofs.Common.{List, ap, ℕ, ◌≡◌}
use Rattle.std.proofs.lemmas.List.{set-get_or}
use Rattle.rules_machine.specs.State.{Mutex}
use Rattle.rules_machine.specs.Threads.{no_mutex}
use Rattle.kernel_table.specs.Table.{Table, with_mutex}

pub left_alone : (table : Table) (k : ℕ) → with_mutex k (λ (m : Mutex). m) table ≡ table
left_alone table k = ap (λ (ms : List Mutex). record table { mutexes = ms }) (set-get_or table.mutexes k no_mutex)
