use Rattle.std.proofs.Common.{◌≡◌, slice_get, take}
use Rattle.rules_lists.specs.Lists.{list_of}
use Rattle.parts_ready.proofs.Ready.is_list.Given as goal

abbrev pub invariant-loop-place : goal.invariant-loop-place
invariant-loop-place l = (l.node ≡ slice_get (list_of l.fn.p l.self.lists) l.place) × (take l.place (list_of l.fn.p l.self.lists) ≡ take l.place l.threads)
