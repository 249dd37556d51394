use Rattle.std.proofs.Common.{◌≡◌, ◌+◌, ◌*◌, ◌-◌, ◌/◌, ◌%◌, ◌^◌, ◌<◌, ◌≤◌, ℕ, suc, ⊎_elim, sym, ap, ◌∙◌, arith}
use Rattle.std.proofs.Math.Nat.{pow-le-pow_right}
use Rattle.std.specs.Int.Bits.{bit_xor, bit_or}
use Rattle.std.proofs.lemmas.Nat.{leading_top, le_or_r, or_lt, xor_lt}
use lib.Count.{count_leading_zeros}
use Rattle.parts_wheel.proofs.Apart.{place_at}
use Rattle.parts_wheel.proofs.Order.{lt_or}
use Rattle.parts_wheel.proofs.places.place_in.Goals as goal

highest : (now due : ℕ) → now < 2 ^ 53 → due < 2 ^ 53 → let x = bit_or (bit_xor now due) 255 in
    (j : ℕ) × (count_leading_zeros 64 x + suc j ≡ 64) × (2 ^ j ≤ x) × (x < 2 ^ suc j) × (j < 53)
highest now due n d =
    let x = bit_or (bit_xor now due) 255 in
    let most : x < 2 ^ 53 = or_lt 53 (bit_xor now due) 255 (xor_lt 53 now due n d) (omega arith) in
    let h = leading_top 64 x (let least = le_or_r (bit_xor now due) 255 in omega (arith, least)) (omega (arith, most)) in
    (h.0, h.1, h.2, h.3, ⊎_elim (λ l. l) (λ l. let p : 2 ^ 53 ≤ 2 ^ h.0 = pow-le-pow_right (omega arith) l in absurd (omega (arith, p, h.2, most))) (lt_or h.0 53))

pub overflow_sub-level : goal.overflow_sub-level
overflow_sub-level c = let h = highest c.args.now c.args.due c.requires.0 c.requires.1 in omega (arith, h.1)

pub returns-clause-place : goal.returns-clause-place
returns-clause-place c =
    let now = c.args.now in let due = c.args.due in
    let h = highest now due c.requires.0 c.requires.1 in
    let top : 63 - count_leading_zeros 64 (bit_or (bit_xor now due) 255) ≡ h.0 = omega (arith, h.1) in
    ap (λ n. (n / 8, due / 2 ^ (8 * (n / 8)) % 256)) top ∙ sym (place_at now due h.0 (h.0 / 8) (omega arith) (omega arith) (omega (arith, h.4)) h.2 h.3)

pub returns-clause-small : goal.returns-clause-small
returns-clause-small c = let h = highest c.args.now c.args.due c.requires.0 c.requires.1 in (omega (arith, h.1, h.4), omega arith)
