-- A mutex that is put back as it is changes nothing.
use Rattle.std.proofs.Common.{List, ap, ℕ, ◌≡◌}
use Rattle.std.proofs.lemmas.List.{set-get_or}
use Rattle.rules_machine.specs.State.{Mutex}
use Rattle.rules_machine.specs.Threads.{no_mutex}
use Rattle.rules_machine.specs.Turns.{changes_mutex}
use Rattle.kernel_state.specs.Kernel.{Kernel, after}

pub left_alone : (p : Kernel) (k : ℕ) → after (changes_mutex k (λ (m : Mutex). m)) p ≡ p
left_alone p k = ap (λ (ms : List Mutex). record p { machine = record p.machine { mutexes = ms } }) (set-get_or p.machine.mutexes k no_mutex)
