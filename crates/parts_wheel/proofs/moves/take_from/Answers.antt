use Rattle.std.proofs.Common.{is_some, ap, arith, ◌∙◌}
use Rattle.parts_links.specs.Links.{Lists, list_at}
use Rattle.parts_links.proofs.Standing.{on_at}
use Rattle.parts_wheel.proofs.Stands.{has_first, taken_marks}
use Rattle.parts_wheel.proofs.moves.take_from.Goals as goal

pub unlink-requires : goal.unlink-requires
unlink-requires c = (omega (arith, c.requires.node.0, c.requires.sized.0.nodes), on_at c.args.node c.args.list c.args.links.now.lists c.requires.node.1)

pub returns-clause-taken : goal.returns-clause-taken
returns-clause-taken c = record { gone = c.unlink.ensures.gone; lists = ap (λ (l : Lists). l.lists) c.unlink.ensures.lists; others = c.unlink.ensures.others }

pub returns-clause-marked : goal.returns-clause-marked
returns-clause-marked c =
    taken_marks c.args.node c.args.list c.args.links.now.lists c.unlink.new.self.lists c.args.occupied.now c.set.new.self c.is_some.result (returns-clause-taken c)
    c.requires.node.1 c.requires.marked c.set.ensures.bit (c.is_some.ensures ∙ ap is_some c.front.ensures.head ∙ has_first (list_at c.unlink.new.self.lists c.args.list))
