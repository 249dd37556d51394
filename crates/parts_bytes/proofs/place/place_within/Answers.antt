use Rattle.std.proofs.Common.{◌≡◌, ◌+◌, List, ℕ, length, take, subst, arith, length-take-le, take-take}
use Rattle.parts_bytes.specs.Placed.{Placed}
use Rattle.parts_bytes.proofs.Placed.{placed_less}
use Rattle.parts_bytes.proofs.place.place_within.Goals as goal

pub returns : goal.returns
returns g c =
    let text = c.args.text.now in
    let long : length (take g.row.N text) ≡ g.row.N = length-take-le g.row.N text c.requires.room.0 in
    subst (λ (t : List ℕ). Placed c.args.buf.now c.place_front.new.buf c.args.at t (c.args.at + c.args.len))
    (take-take c.args.len g.row.N text c.requires.short) (placed_less c.args.len (omega arith) (omega arith) c.place_front.ensures)
