-- What a call counts on stays once it has returned.
use Rattle.std.proofs.Common.{◌≡◌, ◌∙◌, ℕ, true, ap, refl, subst, sym}
use Rattle.words_numbers.specs.declared.res.Res.{Res}
use Rattle.rules_machine.specs.Threads.{is_blocked, no_thread, thread_at}
use Rattle.rules_machine.specs.Turns.{Caller, answered, returns}
use Rattle.rules_machine.proofs.Reading.{changed-keeps}
use Rattle.kernel_threads.specs.Unused.{IsUnused}
use Rattle.kernel_state.specs.Caught.{HasRoomToPend}
use Rattle.kernel_state.specs.Kernel.{Kernel, after, turn}
use Rattle.kernel_state.specs.Callers.{AllRest}

pub returned_pends : (by : Caller) (x : Res) (value : ℕ) (k l : Kernel) → l ≡ after (returns by x value) k → HasRoomToPend k.machine → HasRoomToPend l.machine
returned_pends by x value k l e h = rw e (record { few = h.few; youngest = h.youngest })

pub returned_blocked : (by : Caller) (x : Res) (value u : ℕ) (k l : Kernel) → l ≡ after (returns by x value) k → is_blocked (thread_at k.machine u).status ≡ true → is_blocked (thread_at l.machine u).status ≡ true
returned_blocked by x value u k l e h =
    rw e (ap is_blocked (changed-keeps no_thread by.thread u (answered x value) (λ th. th.status) (λ th. refl) k.machine.threads) ∙ h)

pub returned_rests : (by : Caller) (x : Res) (value : ℕ) (k l : Kernel) → l ≡ after (returns by x value) k → AllRest k.machine → AllRest l.machine
returned_rests by x value k l e h = rw e all
  where
    all : AllRest (returns by x value (turn k)).machine
    all u on =
        let status = changed-keeps no_thread by.thread u (answered x value) (λ th. th.status) (λ th. refl) k.machine.threads in
        let server = changed-keeps no_thread by.thread u (answered x value) (λ th. th.server) (λ th. refl) k.machine.threads in
        subst IsUnused (sym server) (h u (sym (ap is_blocked status) ∙ on))
