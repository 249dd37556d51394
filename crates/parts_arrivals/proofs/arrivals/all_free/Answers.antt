use Rattle.std.proofs.Common.{length, ap, ◌∙◌, arith}
use Rattle.parts_links.specs.Links.{Lists, on_a_list}
use Rattle.parts_arrivals.proofs.Orders.{off_first}
use Rattle.parts_arrivals.proofs.arrivals.all_free.Goals as goal

pub push_back-requires : goal.push_back-requires
push_back-requires c =
    let n = c.loop-node.node in let is = c.loop-node.invariant in
    (omega (arith, ap (λ (l : Lists). length l.lists) is), omega (arith, ap (λ (l : Lists). l.nodes) is), ap (λ (l : Lists). on_a_list n l.lists) is ∙ off_first n)
