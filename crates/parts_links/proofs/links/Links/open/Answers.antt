use Rattle.std.proofs.Common.{[], replicate, refl, sym, subst}
use Rattle.parts_links.specs.Links.{AreLinked}
use Rattle.parts_links.proofs.Linkeds.{linked_alone, linked_read, read_is}
use Rattle.parts_links.proofs.links.Links.open.Goals as goal

pub invariant_of-result : goal.invariant_of-result
invariant_of-result c =
    let is = subst (λ r. AreLinked c.args.nodes c.args.lists r (replicate c.args.lists [])) (sym c.in_ok-block.ensures) (linked_alone c.args.nodes c.args.lists) in
    (c.requires.0, c.requires.1, linked_read c.args.nodes c.args.lists c.in_ok-block.block (replicate c.args.lists []) is)

pub returns : goal.returns
returns c =
    let is = subst (λ r. AreLinked c.args.nodes c.args.lists r (replicate c.args.lists [])) (sym c.in_ok-block.ensures) (linked_alone c.args.nodes c.args.lists) in
    (refl, read_is c.args.nodes c.args.lists c.in_ok-block.block (replicate c.args.lists []) is)
