-- Setting CLOCK_REALTIME tells nothing by itself.
use Rattle.std.proofs.Common.{◌≡◌, ◌∙◌, ℕ, List, [], ◌∷◌, refl}
use Rattle.words_trace.specs.Text.{Entry}
use Rattle.rules_bodies.specs.declared.cursor.Cursor.{Cursor}
use Rattle.rules_machine.specs.Clock.{changes_each, clock_at, due_as_set, thread_moved, timer_moved}
use Rattle.rules_machine.specs.Lists.{numbers}
use Rattle.rules_machine.specs.Threads.{real_time, thread_numbers}
use Rattle.rules_machine.specs.Turns.{Turn, becomes, changes, changes_timer}
use Rattle.kernel_state.specs.Kernel.{Kernel, told, turn}
use Rattle.kernel_state.specs.RealTimes.{sets_clock}

each_silent : {P : Type 0} (change : ℕ → Turn P → Turn P) → ((n : ℕ) (s : Turn P) → (change n s).events ≡ s.events) → (ns : List ℕ) (s : Turn P) → (changes_each change ns s).events ≡ s.events
each_silent change silent [] s = refl
each_silent change silent (n ∷ ns) s = each_silent change silent ns (change n s) ∙ silent n s

pub set_silently : (reading : ℕ) (k : Kernel) → told (sets_clock reading) k ≡ []
set_silently reading k =
    let s : Turn Cursor = turn k in
    let move = due_as_set s.machine.now (real_time s.machine) reading in
    let set = becomes (λ m. record m { clock = clock_at reading m.now }) s in
    each_silent (λ n. changes_timer n (timer_moved move)) (λ n x. refl) (numbers s.machine.timers) (changes_each (λ t. changes t (thread_moved move)) (thread_numbers s.machine) set)
    ∙ each_silent (λ t. changes t (thread_moved move)) (λ t x. refl) (thread_numbers s.machine) set
