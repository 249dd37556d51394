use Rattle.std.proofs.Common.{◌≡◌, ◌-◌, ◌/◌, ◌%◌, ap, ◌∙◌, arith}
use Rattle.std.specs.Prelude.{decimal}
use Rattle.parts_tracer.proofs.hundred.Hundred.turn_in_full.Goals as goal

pub invariant_of-self : goal.invariant_of-self
invariant_of-self c =
    let now = c.args.now in
    let same : now / 100 ≡ (now - now % 100) / 100 = omega arith in
    let placed = c.place_shared-self-inside.ensures in
    (placed.few, omega arith, (omega arith, omega arith, placed.digits ∙ ap decimal same))
