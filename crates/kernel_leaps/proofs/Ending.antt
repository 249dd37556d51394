-- A run whose process has ended: later ticks add nothing to it.
use Rattle.std.proofs.Common.{◌≡◌, ◌≤◌, ◌+◌, ◌++◌, ◌-◌, ℕ, List, Option, Some, ap, append-nil, arith, subst, sym, ◌∙◌}
use Rattle.parts_tracer.specs.declared.tracer.Tracer.{Tracer}
use Rattle.parts_tracer.specs.Tells.{Tells}
use Rattle.parts_tracer.proofs.Tells.{tells_nothing}
use Rattle.rules_bodies.specs.declared.cursor.Cursor.{Cursor}
use Rattle.rules_machine.specs.Bodies.{Bodies}
use Rattle.rules_machine.specs.Runs.{Ran, ticks}
use Rattle.rules_machine.specs.State.{Machine}
use Rattle.rules_machine.proofs.Joined.{ticks_add}
use Rattle.rules_flat_code.specs.FlatBodies.{flat_bodies}
use Rattle.kernel_state.specs.Kernel.{Kernel}
use Rattle.laws_kernel.proofs.Killed.{killed_stays}
use Rattle.kernel_leaps.proofs.Running.{Running}

pub ended_ticks : {P : Type 0} (bodies : Bodies P) (n d : ℕ) (m : Machine P) (signal : ℕ) → (ticks bodies n m).machine.killed ≡ Some signal → ticks bodies (n + d) m ≡ ticks bodies n m
ended_ticks {P} bodies n d m signal e =
    let first = ticks bodies n m in
    ticks_add bodies n d m
    ∙ ap (λ (r : Ran P). record { machine = r.machine; events = first.events ++ r.events }) (killed_stays bodies first.machine signal e d)
    ∙ ap (λ (es : List _). record { machine = first.machine; events = es }) (append-nil first.events)

-- a kernel whose process has ended is where it was after so many ticks
pub was_ended : (k : Kernel) (n signal : ℕ) → k.machine.killed ≡ Some signal → k ≡ record k { machine = (ticks (flat_bodies k.code) n k.machine).machine }
was_ended k n signal e = ap (λ (r : Ran Cursor). record k { machine = r.machine }) (sym (killed_stays (flat_bodies k.code) k.machine signal e n))

module _ {K : Type 0} (text : K → Option (List ℕ)) (faults : K → ℕ) where
  -- and tells nothing more
  pub was_told : (k : Kernel) (n signal : ℕ) (a : Tracer K) → k.machine.killed ≡ Some signal → Tells text faults k.names a a (ticks (flat_bodies k.code) n k.machine).events
  was_told k n signal a e = subst (λ (r : Ran Cursor). Tells text faults k.names a a r.events) (sym (killed_stays (flat_bodies k.code) k.machine signal e n)) (tells_nothing text faults k.names a)

  module _ (start k : Kernel) (n total signal : ℕ) (a b : Tracer K) (running : Running text faults start k n a b) (within : n ≤ total) (ended : k.machine.killed ≡ Some signal) where
    same_ticks : ticks (flat_bodies start.code) total start.machine ≡ ticks (flat_bodies start.code) n start.machine
    same_ticks =
        let all : n + (total - n) ≡ total = omega (arith, within) in
        let here = subst (λ (x : Kernel). x.machine.killed ≡ Some signal) running.state ended in
        ap (λ (i : ℕ). ticks (flat_bodies start.code) i start.machine) (sym all) ∙ ended_ticks (flat_bodies start.code) n (total - n) start.machine signal here

    -- where it ended on the way
    pub ends_there : k ≡ record start { machine = (ticks (flat_bodies start.code) total start.machine).machine }
    ends_there = running.state ∙ ap (λ (r : Ran Cursor). record start { machine = r.machine }) (sym same_ticks)

    pub told_there : Tells text faults start.names a b (ticks (flat_bodies start.code) total start.machine).events
    told_there = subst (λ (r : Ran Cursor). Tells text faults start.names a b r.events) (sym same_ticks) running.told
