use Rattle.std.proofs.Common.{subst}
use Rattle.parts_links.specs.Links.{read_lists, StandOnce}
use Rattle.parts_links.proofs.Heads.{stand_once}
use Rattle.parts_links.proofs.links.Links.stand_once.Goals as goal

pub returns : goal.returns
returns c = let h = c.self.inside in subst StandOnce c.self.view_is (stand_once h.nodes h.lists h.block (read_lists h.block h.nodes 0 h.lists) c.self.invariant.2)
