-- A message enters, something happens, and the notification comes last.
use Rattle.std.proofs.Common.{◌≡◌, ℕ, List, Option, ap, subst, sym}
use Rattle.parts_tracer.specs.Tells.{Tells}
use Rattle.parts_tracer.specs.declared.tracer.Tracer.{Tracer}
use Rattle.rules_bodies.specs.declared.cursor.Cursor.{Cursor}
use Rattle.rules_machine.specs.Queues.{enters, fired_by_message, notifies, with_message}
use Rattle.rules_machine.specs.State.{Message, Registration}
use Rattle.rules_machine.specs.Turns.{Turn, changes_queue}
use Rattle.rules_machine.proofs.Behind.{AddsBehind}
use Rattle.rules_machine.proofs.BehindCalls.{notifies_behind}
use Rattle.kernel_state.specs.Kernel.{Kernel, after, told, turn}
use Rattle.kernel_state.proofs.Turns.{then_state, then_told}
use Rattle.calls_generation.proofs.Same.{same_after, same_told}

module _ (q : ℕ) (x : Message) (g : Turn Cursor → Turn Cursor) (adds : AddsBehind g) (fired : Option Registration) (k l m n : Kernel) (is : fired ≡ fired_by_message k.machine q)
    (put : l ≡ after (changes_queue q (with_message x)) k) (done : m ≡ after g l) where
  abbrev first : Turn Cursor → Turn Cursor
  first s = g (changes_queue q (with_message x) s)

  abbrev all : Turn Cursor → Turn Cursor
  all s = notifies fired q (first s)

  same : enters q x g (turn k) ≡ all (turn k)
  same = ap (λ (o : Option Registration). notifies o q (first (turn k))) (sym is)

  first_state : m ≡ after first k
  first_state = then_state (changes_queue q (with_message x)) g k l m adds put done

  pub entered : n ≡ after (notifies fired q) m → n ≡ after (enters q x g) k
  entered last = same_after (enters q x g) all k n same (then_state first (notifies fired q) k m n (notifies_behind fired q) first_state last)

  pub told_entered : {K : Type 0} (text : K → Option (List ℕ)) (faults : K → ℕ) (a b c : Tracer K) → Tells text faults l.names a b (told g l) → Tells text faults m.names b c (told (notifies fired q) m) →
      Tells text faults k.names a c (told (enters q x g) k)
  told_entered text faults a b c one two =
      let early : Tells text faults k.names a b (told first k) = subst (λ (y : Kernel). Tells text faults y.names a b (told g y)) put one in
      same_told text faults (enters q x g) all k a c same (then_told text faults first (notifies fired q) k m a b c (notifies_behind fired q) first_state early two)
