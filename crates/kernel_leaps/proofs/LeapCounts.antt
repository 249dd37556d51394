-- How many leaps are left.
use Rattle.std.proofs.Common.{◌≡◌, ◌≤◌, ◌+◌, ℕ, zero, suc, Option, None, Some, ap, arith, refl, subst, sym}
use Rattle.std.specs.Prelude.{◌-◌}
use Rattle.rules_machine.specs.Bodies.{Bodies}
use Rattle.rules_machine.specs.DueItems.{instant}
use Rattle.rules_machine.specs.Runs.{Ran, ran, ticks}
use Rattle.rules_machine.specs.State.{Machine}
use Rattle.rules_machine.specs.Turns.{turn_of}
use Rattle.rules_leaps.specs.Leap.{Leapt, in_leaps, leap, leap_length, leaps, length_from, one_before}

module _ {P : Type 0} (bodies : Bodies P) where
  some_length : (most : ℕ) (m : Machine P) → 1 ≤ most → 1 ≤ leap_length bodies most m
  some_length most m some = by_killed (instant bodies (turn_of m)).machine.killed
    where
      by_killed : (o : Option ℕ) → 1 ≤ length_from bodies o most (instant bodies (turn_of m)).machine
      by_killed None = omega arith
      by_killed (Some signal) = some

  -- as many as there are ticks are enough, and more change nothing
  enough : (b c most : ℕ) (m : Machine P) → most ≤ b → most ≤ c → leaps bodies b most m ≡ leaps bodies c most m
  enough zero zero zero m p q = refl
  enough zero (suc c) zero m p q = refl
  enough (suc b) zero zero m p q = refl
  enough (suc b) (suc c) zero m p q = refl
  enough zero c (suc most) m p q = absurd (omega arith)
  enough (suc b) zero (suc most) m p q = absurd (omega arith)
  enough (suc b) (suc c) (suc most) m p q =
      let k = leap_length bodies (suc most) m in
      let first = ran (leap bodies k (turn_of m)) in
      let some = some_length (suc most) m (omega arith) in
      ap (one_before first) (enough b c (suc most - k) first.machine (omega (arith, some, p)) (omega (arith, some, q)))

  counted : (most : ℕ) (m : Machine P) → 1 ≤ most → (in_leaps bodies most m).count ≡ (in_leaps bodies (most - leap_length bodies most m) (ran (leap bodies (leap_length bodies most m) (turn_of m))).machine).count + 1
  counted zero m some = absurd (omega arith)
  counted (suc most) m some =
      let k = leap_length bodies (suc most) m in
      let first = ran (leap bodies k (turn_of m)) in
      let one = some_length (suc most) m some in
      ap (λ (l : Leapt P). l.count + 1) (enough most (suc most - k) (suc most - k) first.machine (omega (arith, one)) (omega arith))

  -- after one leap there is one less
  pub one_less : (most k : ℕ) (m : Machine P) → 1 ≤ most → k ≡ leap_length bodies most m → ran (leap bodies k (turn_of m)) ≡ ticks bodies k m →
      (in_leaps bodies most m).count ≡ (in_leaps bodies (most - k) (ticks bodies k m).machine).count + 1
  one_less most k m some e same =
      subst (λ (r : Ran P). (in_leaps bodies most m).count ≡ (in_leaps bodies (most - k) r.machine).count + 1) same
      (subst (λ (n : ℕ). (in_leaps bodies most m).count ≡ (in_leaps bodies (most - n) (ran (leap bodies n (turn_of m))).machine).count + 1) (sym e) (counted most m some))
