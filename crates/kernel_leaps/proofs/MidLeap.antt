-- A leap that is told as a tick and the rest: how many leaps are left meanwhile.
use Rattle.std.proofs.Common.{◌≡◌, ◌∙◌, ◌+◌, ◌<◌, ◌≤◌, ℕ, zero, suc, Bool, ap, arith, false, refl, sym, true}
use Rattle.std.specs.Prelude.{nat_lt, ◌-◌}
use Rattle.rules_machine.specs.Bodies.{Bodies}
use Rattle.rules_machine.specs.Eventful.{is_eventful}
use Rattle.rules_machine.specs.Runs.{Ran, ticks}
use Rattle.rules_machine.specs.State.{Machine}
use Rattle.rules_machine.proofs.Joined.{ticks_add}
use Rattle.rules_leaps.specs.Leap.{IsLeap, in_leaps, leap_length}
use Rattle.laws_leaps.proofs.Leaps.Counts.{eventful_later}
use Rattle.kernel_leaps.proofs.LeapCounts.{one_less}

clash : (b : Bool) → b ≡ true → b ≡ false → ⊥
clash b e f = grind arith

module _ {P : Type 0} (bodies : Bodies P) (m : Machine P) where
  abbrev next : Machine P
  next = (ticks bodies 1 m).machine

  later : (i : ℕ) → is_eventful bodies m (suc (suc i)) ≡ is_eventful bodies next (suc i)
  later i = (let more : suc (suc i) ≡ 1 + suc i = omega arith in ap (is_eventful bodies m) more ∙ eventful_later bodies 1 i m)

  module _ (most long rest : ℕ) (leap : IsLeap bodies (suc most) long m) (two : 2 ≤ long) (after : IsLeap bodies most rest next) where
    not_shorter : (k : ℕ) → rest ≡ k → k + 1 < long → ⊥
    not_shorter zero e lt = (let some = after.some in omega (arith, e, some))
    not_shorter (suc i) e lt =
        let within = leap.within in
        let ends : is_eventful bodies next (suc i) ≡ true = ap (is_eventful bodies next) (sym e) ∙ after.ends (omega (arith, e, lt, within)) in
        clash (is_eventful bodies next (suc i)) ends (sym (later i) ∙ leap.inside (suc (suc i)) (omega arith) (omega (arith, lt)))

    not_longer : (k : ℕ) → long ≡ k → k < rest + 1 → ⊥
    not_longer zero e lt = omega (arith, e, two)
    not_longer (suc zero) e lt = omega (arith, e, two)
    not_longer (suc (suc i)) e lt =
        let within = after.within in
        let ends : is_eventful bodies m (suc (suc i)) ≡ true = ap (is_eventful bodies m) (sym e) ∙ leap.ends (omega (arith, e, lt, within)) in
        clash (is_eventful bodies m (suc (suc i))) ends (later i ∙ after.inside (suc i) (omega arith) (omega (arith, lt)))

    -- the rest is what the tick leaves
    pub one_longer : rest + 1 ≡ long
    one_longer = by_less (nat_lt (rest + 1) long) (nat_lt long (rest + 1)) refl refl
      where
        less : (a b : ℕ) → nat_lt a b ≡ true → a < b
        less a b e = grind arith

        equal : (a b : ℕ) → nat_lt a b ≡ false → nat_lt b a ≡ false → a ≡ b
        equal a b e f = grind arith

        by_less : (x y : Bool) → nat_lt (rest + 1) long ≡ x → nat_lt long (rest + 1) ≡ y → rest + 1 ≡ long
        by_less true y e f = absurd (not_shorter rest refl (less (rest + 1) long e))
        by_less false true e f = absurd (not_longer long refl (less long (rest + 1) f))
        by_less false false e f = equal (rest + 1) long e f

    -- so as many leaps are left behind the tick as there were
    pub as_many : long ≡ leap_length bodies (suc most) m → rest ≡ leap_length bodies most next → 1 ≤ most → (in_leaps bodies most next).count ≡ (in_leaps bodies (suc most) m).count
    as_many long_is rest_is some =
        let whole = one_less bodies (suc most) long m (omega arith) long_is leap.same in
        let part = one_less bodies most rest next some rest_is after.same in
        let both : 1 + rest ≡ long = (let e = one_longer in omega (arith, e)) in
        let left : most - rest ≡ suc most - long = (let e = one_longer in omega (arith, e)) in
        part
        ∙ ap (λ (k : ℕ). (in_leaps bodies k (ticks bodies rest next).machine).count + 1) left
        ∙ ap (λ (r : Ran P). (in_leaps bodies (suc most - long) r.machine).count + 1) (sym (ticks_add bodies 1 rest m))
        ∙ ap (λ (k : ℕ). (in_leaps bodies (suc most - long) (ticks bodies k m).machine).count + 1) both
        ∙ sym whole
