-- Effects that come to the same on a kernel.
use Rattle.std.proofs.Common.{◌≡◌, ◌∙◌, ℕ, List, Option, ap, subst, sym}
use Rattle.parts_tracer.specs.Tells.{Tells}
use Rattle.parts_tracer.specs.declared.tracer.Tracer.{Tracer}
use Rattle.parts_tracer.proofs.Tells.{tells_nothing}
use Rattle.rules_bodies.specs.declared.cursor.Cursor.{Cursor}
use Rattle.rules_machine.specs.Turns.{Turn}
use Rattle.kernel_state.specs.Kernel.{Kernel, after, told, turn}

pub same_after : (f g : Turn Cursor → Turn Cursor) (k l : Kernel) → f (turn k) ≡ g (turn k) → l ≡ after g k → l ≡ after f k
same_after f g k l same e = e ∙ sym (ap (λ (s : Turn Cursor). record k { machine = s.machine; direct = s.direct }) same)

pub same_told : {K : Type 0} (text : K → Option (List ℕ)) (faults : K → ℕ) (f g : Turn Cursor → Turn Cursor) (k : Kernel) (a b : Tracer K) → f (turn k) ≡ g (turn k) →
    Tells text faults k.names a b (told g k) → Tells text faults k.names a b (told f k)
same_told text faults f g k a b same h = subst (λ (s : Turn Cursor). Tells text faults k.names a b s.events) (sym same) h

-- nothing happens
pub nothing_after : (f : Turn Cursor → Turn Cursor) (k : Kernel) → f (turn k) ≡ turn k → k ≡ after f k
nothing_after f k same = sym (ap (λ (s : Turn Cursor). record k { machine = s.machine; direct = s.direct }) same)

pub nothing_told : {K : Type 0} (text : K → Option (List ℕ)) (faults : K → ℕ) (f : Turn Cursor → Turn Cursor) (k : Kernel) (a : Tracer K) → f (turn k) ≡ turn k → Tells text faults k.names a a (told f k)
nothing_told text faults f k a same = subst (λ (s : Turn Cursor). Tells text faults k.names a a s.events) (sym same) (tells_nothing text faults k.names a)
