-- Quotients that are rounded up.
use Rattle.std.proofs.Common.{◌≡◌, ℕ, zero, suc, ◌+◌, ◌*◌, ◌/◌, ◌%◌, ◌<◌, ◌≤◌, min, arith, refl, inl, inr}
use Rattle.std.specs.Prelude.{◌==◌, if◌then◌else◌, ◌⊎◌}
use Rattle.std.proofs.lemmas.Nat.{div-add-mod', div-mul-add, mod-mul-add, mod_below}
use Rattle.std.proofs.lemmas.Bool.Decides.{nat_tests}
use Rattle.std.proofs.Math.Nat.{add-mul}
use Rattle.std.proofs.Common.{le_trans}
use Rattle.tool_times.specs.Equation.{ceiling}

-- at the remainder b of the quotient a
ceiling_at : (a b t : ℕ) → b < t → ceiling (a * t + b) t ≡ a + min 1 b
ceiling_at a b t below = rw (div-mul-add a t b, mod-mul-add a t b) refl

next_at : (a b t : ℕ) → b < t → ceiling (a * t + b + 1) t ≡ a + min 1 b + (if b == 0 then 1 else 0)
next_at a b t below =
    let cases : (b + 1 < t) ⊎ (b + 1 ≡ t) = grind arith in
    elim cases [
      | inl inside ↦
          (let e : ceiling (a * t + (b + 1)) t ≡ a + min 1 (b + 1) = ceiling_at a (b + 1) t inside in
          let f : a * t + b + 1 ≡ a * t + (b + 1) = omega arith in
          rw f (rw e (grind (arith, nat_tests))))
      | inr last ↦
          (let e : ceiling ((a + 1) * t + 0) t ≡ a + 1 + 0 = ceiling_at (a + 1) 0 t (omega arith) in
          let f : a * t + b + 1 ≡ (a + 1) * t + 0 = omega (arith, add-mul a 1 t) in
          rw f (rw e (grind (arith, nat_tests))))
    ]

-- One instant later it is larger by one exactly after a multiple.
pub ceiling_next : (n t : ℕ) → 1 ≤ t → ceiling (suc n) t ≡ ceiling n t + (if n % t == 0 then 1 else 0)
ceiling_next n t some =
    let e : n / t * t + n % t ≡ n = div-add-mod' n t in
    let f : ceiling (n / t * t + n % t + 1) t ≡ n / t + min 1 (n % t) + (if n % t == 0 then 1 else 0) = next_at (n / t) (n % t) t (mod_below n t some) in
    let g : n / t * t + n % t + 1 ≡ suc n = omega (arith, e) in
    rw g at f

pub ceiling_zero : (t : ℕ) → 1 ≤ t → ceiling 0 t ≡ 0
ceiling_zero t some =
    let e : ceiling (0 * t + 0) t ≡ 0 = ceiling_at 0 0 t some in
    let f : 0 * t + 0 ≡ 0 = omega arith in
    rw f at e

pub ceiling_le_next : (n t : ℕ) → 1 ≤ t → ceiling n t ≤ ceiling (suc n) t
ceiling_le_next n t some = rw (ceiling_next n t some) (omega arith)

pub ceiling_mono : (n m t : ℕ) → 1 ≤ t → n ≤ m → ceiling n t ≤ ceiling m t
ceiling_mono zero m t some le = rw (ceiling_zero t some) (omega arith)
ceiling_mono (suc n) zero t some le = absurd (omega arith)
ceiling_mono (suc n) (suc m) t some le =
    let cases : (suc n ≤ m) ⊎ (n ≡ m) = grind arith in
    elim cases [
      | inl less ↦ le_trans (ceiling_mono (suc n) m t some less) (ceiling_le_next m t some)
      | inr same ↦ rw same (omega arith)
    ]

pub ceiling_le : (n t : ℕ) → 1 ≤ t → ceiling n t ≤ n
ceiling_le zero t some = rw (ceiling_zero t some) (omega arith)
ceiling_le (suc n) t some =
    let e : ceiling n t ≤ n = ceiling_le n t some in
    rw (ceiling_next n t some) (grind (arith, nat_tests))

-- it is at least 1 after the instant 0
pub ceiling_some : (n t : ℕ) → 1 ≤ t → 1 ≤ ceiling (suc n) t
ceiling_some zero t some = rw (ceiling_next zero t some) (grind (arith, nat_tests))
ceiling_some (suc n) t some = le_trans (ceiling_some n t some) (ceiling_le_next (suc n) t some)
