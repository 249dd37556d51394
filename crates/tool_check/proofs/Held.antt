-- A write that fits, and one that does not.
use Rattle.std.proofs.Common.{◌≡◌, ◌≤◌, ℕ, ◌+◌, ◌-◌, List, ◌++◌, length, take, arith, length-append}
use Rattle.std.proofs.Math.Seq.{take-append-add}
use Rattle.std.proofs.lemmas.List.{take_all}

-- all of it
pub held_all : (r : ℕ) (t b : List ℕ) → length t + length b ≤ r → take r (t ++ b) ≡ t ++ b
held_all r t b fits = take_all r (t ++ b) (omega (arith, length-append t b))

-- the part that fits
pub held_part : (r k : ℕ) (t b : List ℕ) → length t ≤ r → k ≡ r - length t → take r (t ++ b) ≡ t ++ take k b
held_part r k t b room is =
    let sum : r ≡ length t + k = omega arith in
    rw sum (take-append-add t b k)
