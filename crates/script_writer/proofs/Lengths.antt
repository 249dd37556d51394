-- Lengths that stop at the greatest number of 64 bits.
use Rattle.std.proofs.Common.{◌≡◌, ◌+◌, ◌-◌, ◌^◌, ℕ, List, ◌++◌, length, min, ◌∙◌, ap, sym, arith}
use Rattle.std.proofs.Common.{length-append}
use Rattle.script_writer.specs.Firsts.{capped_len}

capped_sum : (a b : ℕ) → min (min a (2 ^ 64 - 1) + min b (2 ^ 64 - 1)) (2 ^ 64 - 1) ≡ min (a + b) (2 ^ 64 - 1)
capped_sum a b = omega arith

-- one text behind another
pub both_len : (xs ys all : List ℕ) (a b r : ℕ) → a ≡ capped_len xs → b ≡ capped_len ys → r ≡ min (a + b) (2 ^ 64 - 1) → xs ++ ys ≡ all → r ≡ capped_len all
both_len xs ys all a b r first rest is joined =
    let len : length (xs ++ ys) ≡ length xs + length ys = length-append xs ys in
    let same : length (xs ++ ys) ≡ length all = ap length joined in
    let r_is : r ≡ min (min (length xs) (2 ^ 64 - 1) + min (length ys) (2 ^ 64 - 1)) (2 ^ 64 - 1) = cc in
    r_is ∙ (capped_sum (length xs) (length ys) ∙ ap (λ n. min n (2 ^ 64 - 1)) (sym len ∙ same))
