use Rattle.std.proofs.Common.{get_or, None, sym, ap, ◌∙◌}
use Rattle.parts_links.proofs.Blocks.{before_named, before_is}
use Rattle.parts_links.proofs.block.Block.before.Goals as goal

pub get-requires-2 : goal.get-requires-2
get-requires-2 c =
    let read = ap (λ i. get_or c.self.inside.cells.slots i None) (sym c.place-place.ensures.index) ∙ c.get.ensures in
    before_named c.self.invariant c.args.cell c.get.result.now read c.at-last.result.ptr c.at-last.ensures

pub returns : goal.returns
returns c =
    let read = ap (λ i. get_or c.self.inside.cells.slots i None) (sym c.place-place.ensures.index) ∙ c.get.ensures in
    before_is c.self.invariant c.args.cell c.get.result.now read c.at-last.result.ptr c.at-last.ensures c.get-2.result.now c.get-2.ensures ∙ ap (λ r. get_or r.before c.args.cell 0) c.self.view_is
