-- One effect after another, and effects that come to the same: state and lines at once.
use Rattle.std.proofs.Common.{◌≡◌, ◌∙◌, ℕ, List, [], Option, ap, refl, subst, sym}
use Rattle.words_trace.specs.Text.{Entry}
use Rattle.parts_tracer.specs.Tells.{Tells}
use Rattle.parts_tracer.specs.declared.tracer.Tracer.{Tracer}
use Rattle.parts_tracer.proofs.Tells.{tells_nothing}
use Rattle.rules_bodies.specs.declared.cursor.Cursor.{Cursor}
use Rattle.rules_machine.specs.Bodies.{Bodies}
use Rattle.rules_machine.specs.Turns.{Turn}
use Rattle.rules_flat_code.specs.FlatBodies.{flat_bodies}
use Rattle.rules_machine.proofs.Behind.{AddsBehind}
use Rattle.kernel_state.specs.Does.{Does}
use Rattle.kernel_state.specs.Kernel.{Kernel, after, told, turn}
use Rattle.kernel_state.proofs.Turns.{then_state, then_state_in, then_told, then_told_in}

module _ {K : Type 0} {text : K → Option (List ℕ)} {faults : K → ℕ} where
  pub then_does : {f g : Turn Cursor → Turn Cursor} {k l m : Kernel} {a b c : Tracer K} → AddsBehind g → Does text faults f k l a b → Does text faults g l m b c → Does text faults (λ (s : Turn Cursor). g (f s)) k m a c
  then_does {f} {g} {k} {l} {m} {a} {b} {c} adds one two = record {
    state = then_state f g k l m adds one.state two.state;
    told = then_told text faults f g k l a b c adds one.state one.told two.told;
  }

  -- an effect of which nothing is told
  pub silent_does : (f : Turn Cursor → Turn Cursor) (k l : Kernel) (a : Tracer K) → told f k ≡ [] → l ≡ after f k → Does text faults f k l a a
  silent_does f k l a none is = record {
    state = is;
    told = subst (λ (es : List Entry). Tells text faults k.names a a es) (sym none) (tells_nothing text faults k.names a);
  }

  -- an effect of which nothing is told, and then another
  pub quiet_does : (f : Turn Cursor → Turn Cursor) {g : Turn Cursor → Turn Cursor} {k l m : Kernel} {a b : Tracer K} → told f k ≡ [] → l ≡ after f k → Does text faults g l m a b → Does text faults (λ (s : Turn Cursor). g (f s)) k m a b
  quiet_does f {g} {k} {l} {m} {a} {b} none is does =
      let s = f (turn k) in
      let same : turn (after f k) ≡ s = ap (λ (es : List Entry). record s { events = es }) (sym none) in
      let on : Does text faults g (after f k) m a b = subst (λ (x : Kernel). Does text faults g x m a b) is does in
      record {
        state = on.state ∙ ap (λ (u : Turn Cursor). record k { machine = (g u).machine; direct = (g u).direct }) same;
        told = subst (λ (u : Turn Cursor). Tells text faults k.names a b (g u).events) same on.told;
      }

  -- one that comes to the same
  pub same_does : {f g : Turn Cursor → Turn Cursor} {k l : Kernel} {a b : Tracer K} → f (turn k) ≡ g (turn k) → Does text faults g k l a b → Does text faults f k l a b
  same_does {f} {g} {k} {l} {a} {b} same does = record {
    state = does.state ∙ sym (ap (λ (s : Turn Cursor). record k { machine = s.machine; direct = s.direct }) same);
    told = subst (λ (s : Turn Cursor). Tells text faults k.names a b s.events) (sym same) does.told;
  }

  -- one that does nothing
  pub nothing_does : (f : Turn Cursor → Turn Cursor) (k : Kernel) (a : Tracer K) → f (turn k) ≡ turn k → Does text faults f k k a a
  nothing_does f k a same = same_does {f = f} {g = λ (s : Turn Cursor). s} same (record { state = refl; told = tells_nothing text faults k.names a })

  -- One effect after another, of which both know the bodies of the kernel's code, which no effect changes.
  pub then_does_in : (f g : Bodies Cursor → Turn Cursor → Turn Cursor) {k l m : Kernel} {a b c : Tracer K} → ((bodies : Bodies Cursor) → AddsBehind (g bodies)) →
      Does text faults (f (flat_bodies k.code)) k l a b → Does text faults (g (flat_bodies l.code)) l m b c → Does text faults (λ (s : Turn Cursor). g (flat_bodies k.code) (f (flat_bodies k.code) s)) k m a c
  then_does_in f g {k} {l} {m} {a} {b} {c} adds one two = record {
    state = then_state_in f g k l m adds one.state two.state;
    told = then_told_in text faults f g k l a b c adds one.state one.told two.told;
  }
