use Rattle.std.proofs.Common.{◌≡◌, Some, slice_get}
use Rattle.parts_links.specs.Links.{list_at}
use Rattle.parts_links.proofs.links.Links.nth.Given as goal

abbrev pub invariant-loop-past : goal.invariant-loop-past
invariant-loop-past l = Some l.node ≡ slice_get (list_at l.self.lists l.list) l._past
