-- One effect after another, over the parts.
use Rattle.std.proofs.Common.{◌≡◌, ℕ, List, Option, ap, append-nil, subst, sym, ◌∙◌}
use Rattle.parts_tracer.specs.Tells.{Tells}
use Rattle.parts_tracer.specs.declared.tracer.Tracer.{Tracer}
use Rattle.parts_tracer.proofs.Tells.{tells_both}
use Rattle.rules_bodies.specs.declared.cursor.Cursor.{Cursor}
use Rattle.rules_bodies.specs.declared.op.Op.{Op}
use Rattle.rules_bodies.specs.Flat as flat
use Rattle.rules_machine.specs.Bodies.{Bodies}
use Rattle.rules_machine.specs.Turns.{Turn}
use Rattle.rules_flat_code.specs.FlatBodies.{flat_bodies}
use Rattle.rules_machine.proofs.Behind.{AddsBehind, behind}
use Rattle.kernel_state.specs.Kernel.{Kernel, after, told, turn}

pub after_told : (f g : Turn Cursor → Turn Cursor) (k : Kernel) → AddsBehind g → g (f (turn k)) ≡ behind (told f k) (g (turn (after f k)))
after_told f g k adds =
    let s = f (turn k) in
    ap (λ (es : _). g (record s { events = es })) (sym (append-nil s.events)) ∙ adds s.events (turn (after f k))

pub then_state : (f g : Turn Cursor → Turn Cursor) (k l m : Kernel) → AddsBehind g → l ≡ after f k → m ≡ after g l → m ≡ after (λ (s : Turn Cursor). g (f s)) k
then_state f g k l m adds first second =
    second ∙ ap (after g) first ∙ sym (ap (λ (s : Turn Cursor). record k { machine = s.machine; direct = s.direct }) (after_told f g k adds))

pub then_told : {K : Type 0} (text : K → Option (List ℕ)) (faults : K → ℕ) (f g : Turn Cursor → Turn Cursor) (k l : Kernel) (a b c : Tracer K) → AddsBehind g → l ≡ after f k →
    Tells text faults k.names a b (told f k) → Tells text faults l.names b c (told g l) → Tells text faults k.names a c (told (λ (s : Turn Cursor). g (f s)) k)
then_told text faults f g k l a b c adds first one two =
    let second = subst (λ (x : Kernel). Tells text faults x.names b c (told g x)) first two in
    tells_both text faults k.names a b c (told f k) (told g (after f k)) (told (λ (s : Turn Cursor). g (f s)) k) one second
    (sym (ap (λ (s : Turn Cursor). s.events) (after_told f g k adds)))

-- The same of effects that know the bodies of the kernel's code, which no effect changes.
pub then_state_in : (f g : Bodies Cursor → Turn Cursor → Turn Cursor) (k l m : Kernel) → ((b : Bodies Cursor) → AddsBehind (g b)) → l ≡ after (f (flat_bodies k.code)) k →
    m ≡ after (g (flat_bodies l.code)) l → m ≡ after (λ (s : Turn Cursor). g (flat_bodies k.code) (f (flat_bodies k.code) s)) k
then_state_in f g k l m adds first second =
    let code = ap (λ (x : Kernel). x.code) first in
    then_state (f (flat_bodies k.code)) (g (flat_bodies k.code)) k l m (adds (flat_bodies k.code)) first (subst (λ (c : flat.NumberedBodies (List Op)). m ≡ after (g (flat_bodies c)) l) code second)

pub then_told_in : {K : Type 0} (text : K → Option (List ℕ)) (faults : K → ℕ) (f g : Bodies Cursor → Turn Cursor → Turn Cursor) (k l : Kernel) (a b c : Tracer K) →
    ((b : Bodies Cursor) → AddsBehind (g b)) → l ≡ after (f (flat_bodies k.code)) k → Tells text faults k.names a b (told (f (flat_bodies k.code)) k) →
    Tells text faults l.names b c (told (g (flat_bodies l.code)) l) → Tells text faults k.names a c (told (λ (s : Turn Cursor). g (flat_bodies k.code) (f (flat_bodies k.code) s)) k)
then_told_in text faults f g k l a b c adds first one two =
    let code = ap (λ (x : Kernel). x.code) first in
    then_told text faults (f (flat_bodies k.code)) (g (flat_bodies k.code)) k l a b c (adds (flat_bodies k.code)) first one
    (subst (λ (x : flat.NumberedBodies (List Op)). Tells text faults l.names b c (told (g (flat_bodies x)) l)) code two)
