use Rattle.std.proofs.Common.{drop, List, ℕ, ◌∙◌, ap}
use Rattle.parts_bytes.proofs.Placed.{range_shrinks}
use Rattle.parts_io.proofs.held.Held.let_go.Goals as goal

pub returns-then-count-self : goal.returns-then-count-self
returns-then-count-self c =
    let held = c.self.inside in
    range_shrinks held.bytes.items held.start c.args.count held.end ∙ ap (λ (t : List ℕ). drop c.args.count t) c.self.view_is
