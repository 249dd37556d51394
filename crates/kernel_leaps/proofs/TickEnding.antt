-- Where the rule of a tick's end does nothing, its moves do nothing either.
use Rattle.std.proofs.Common.{◌≡◌, ℕ, Bool, List, [], ap, sym, ◌∙◌}
use Rattle.rules_bodies.specs.declared.cursor.Cursor.{Cursor}
use Rattle.rules_machine.specs.Settling.{settled}
use Rattle.rules_machine.specs.State.{Machine}
use Rattle.rules_machine.specs.Threads.{thread_at}
use Rattle.rules_machine.specs.Ticks.{TickEnd, ends_tick, nothing, tick_end, tick_ends}
use Rattle.rules_machine.specs.Turns.{Turn, settles_since}
use Rattle.kernel_state.specs.Kernel.{Kernel, after}
use Rattle.kernel_settling.specs.Stood.{StoodRight}
use Rattle.kernel_settling.proofs.SweepNothing.{settled_nothing}

pub ends_with_nothing : (k : Kernel) (was_high : Bool) (t : ℕ) → StoodRight k.machine → k.direct ≡ [] →
    tick_end was_high k.machine.quantum (thread_at k.machine t) ≡ nothing → k ≡ after (tick_ends was_high t) k
ends_with_nothing k was_high t stood quiet none =
    sym (ap (λ (e : TickEnd). after (λ (s : Turn Cursor). settles_since k.machine (ends_tick e t s)) k) none
    ∙ ap (λ (ds : List ℕ). record k { machine = settled k.machine ds k.machine; direct = [] }) quiet
    ∙ ap (λ (m : Machine Cursor). record k { machine = m; direct = [] }) (settled_nothing k.machine stood)
    ∙ ap (λ (ds : List ℕ). record k { direct = ds }) (sym quiet))
