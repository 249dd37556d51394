use Rattle.std.proofs.Common.{List, ℕ, subst}
use Rattle.parts_bytes.specs.Placed.{Placed}
use Rattle.parts_tracer.proofs.names.Name.place.Goals as goal

pub returns-clause-placed : goal.returns-clause-placed
returns-clause-placed c =
    let done = c.place_within in
    subst (λ (t : List ℕ). Placed c.args.buf.now done.new.buf c.args.at t done.result) c.self.view_is done.ensures
