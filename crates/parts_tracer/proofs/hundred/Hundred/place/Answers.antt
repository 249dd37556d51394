use Rattle.std.proofs.Common.{◌≡◌, ◌≤◌, ◌+◌, ◌-◌, ◌%◌, ◌^◌, List, ℕ, arith, subst}
use Rattle.itoa.proofs.Decimal.{pair}
use Rattle.parts_bytes.specs.Placed.{Placed}
use Rattle.parts_bytes.proofs.Placed.{placed_then}
use Rattle.parts_tracer.proofs.Placed.{time_by_pair}
use Rattle.parts_tracer.proofs.hundred.Hundred.place.Goals as goal

pub returns-clause-placed : goal.returns-clause-placed
returns-clause-placed c =
    let now = c.args.now in
    let first = c.self.inside.first in
    let known = c.self.invariant in
    let done = c.place_pair in
    let behind : first ≤ now = omega (arith, known.1, c.if-last-ge100.false) in
    let last : (now + (2 ^ 64 - first)) % 2 ^ 64 ≡ now - first = omega arith in
    let two = subst (λ (n : ℕ). Placed c.place_within-at.new.buf done.new.buf c.place_within-at.result (pair n) done.result) last done.ensures in
    subst (λ (t : List ℕ). Placed c.args.buf.now done.new.buf c.args.at t done.result)
    (time_by_pair _ now first c.ranges.now.fits behind (omega (arith, c.if-last-ge100.false)) known.2)
    (placed_then c.place_within-at.ensures two)
