-- Runs that join: so many ticks and then more are all of them, and their events stand one behind the other.
use Rattle.std.proofs.Common.{List, [], ap, append_assoc, arith, refl, suc, sym, zero, ℕ, ◌+◌, ◌++◌, ◌∷◌, ◌≡◌}
use mathlib.Core.Path.{◌∙◌}
use Rattle.rules_machine.specs.Bodies.{Bodies}
use Rattle.rules_machine.specs.State.{Machine}
use Rattle.rules_machine.specs.Runs.{Ran, follow, tick_of, ticks}

append_nothing : {X : Type 0} (xs : List X) → xs ++ [] ≡ xs
append_nothing [] = refl
append_nothing (x ∷ xs) = ap (λ ys. x ∷ ys) (append_nothing xs)

pub follow_assoc : {P : Type 0} (first : Ran P) (more last : Machine P → Ran P) →
    follow (follow first more) last ≡ follow first (λ m. follow (more m) last)
follow_assoc first more last =
    let second = more first.machine in
    let third = last second.machine in
    ap (λ events. record { machine = third.machine; events = events }) (append_assoc first.events second.events third.events)

pub ticks_add : {P : Type 0} (bodies : Bodies P) (a b : ℕ) (m : Machine P) → ticks bodies (a + b) m ≡ follow (ticks bodies a m) (ticks bodies b)
ticks_add bodies a zero m =
    let none_more : a + 0 ≡ a = omega arith in
    ap (λ (n : ℕ). ticks bodies n m) none_more
    ∙ sym (ap (λ events. record { machine = (ticks bodies a m).machine; events = events }) (append_nothing (ticks bodies a m).events))
ticks_add bodies a (suc b) m =
    let one_more : a + suc b ≡ suc (a + b) = omega arith in
    ap (λ (n : ℕ). ticks bodies n m) one_more
    ∙ ap (λ done. follow done (tick_of bodies)) (ticks_add bodies a b m)
    ∙ follow_assoc (ticks bodies a m) (ticks bodies b) (tick_of bodies)
