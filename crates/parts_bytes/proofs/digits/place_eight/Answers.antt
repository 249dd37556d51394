use Rattle.std.proofs.Common.{◌≡◌, ◌/◌, ℕ, arith, subst}
use Rattle.std.specs.Prelude.{decimal}
use Rattle.parts_bytes.specs.Placed.{Placed}
use Rattle.parts_bytes.proofs.Pairs.{placed_by_pair}
use Rattle.parts_bytes.proofs.digits.place_eight.Goals as goal

pub returns-clause-placed : goal.returns-clause-placed
returns-clause-placed c =
    let n = c.args.n in
    let first = c.place_four-at in
    let second = c.place_pair-at in
    let large = c.if-n-lt10000.false in
    let same : n / 10_000 ≡ n / 100 / 100 = omega arith in
    let four = subst (λ (m : ℕ). Placed c.args.buf.now first.new.buf c.args.at (decimal m) first.result) same first.ensures.placed in
    placed_by_pair n (omega (arith, large)) c.ranges.n.fits
    (placed_by_pair (n / 100) (omega (arith, large)) (omega (arith, c.ranges.n.fits)) four second.ensures) c.place_pair.ensures
