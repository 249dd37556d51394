use Rattle.std.proofs.Common.{ap}
use Rattle.parts_ready.proofs.Nodes.{empty_ok, empty_marks}
use Rattle.parts_ready.proofs.Heads.{none_named}
use Rattle.parts_ready.proofs.Tops.{no_top}
use Rattle.parts_ready.proofs.Ready.open.Goals as goal

pub invariant_of-result : goal.invariant_of-result
invariant_of-result c = record {
  lists = empty_ok c.args.threads c.in_ok-links.links.lists c.requires c.in_ok-links.ensures.1;
  nodes = c.in_ok-links.ensures.0;
  marked = empty_marks c.in_ok-links.links.lists c.new.result.words c.in_ok-links.ensures.1 c.new.ensures;
  head = none_named c.in_ok-links.links.lists c.in_ok-links.ensures.1;
  top = no_top c.new.result.words c.new.ensures;
}

pub returns : goal.returns
returns c = ap (λ ls. record { threads = c.args.threads; lists = ls }) c.in_ok-links.ensures.1
