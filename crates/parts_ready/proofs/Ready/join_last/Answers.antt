use Rattle.std.proofs.Common.{◌≡◌}
use Rattle.rules_lists.specs.Lists.{without}
use Rattle.parts_ready.proofs.Places.{without_nowhere}
use Rattle.parts_ready.proofs.Nodes.{times_off}
use Rattle.parts_ready.proofs.Ready.join_last.Goals as goal

pub returns : goal.returns
returns c =
    let same : without c.args.t c.args.self.now.lists ≡ c.args.self.now.lists = without_nowhere c.args.t c.args.self.now.lists (times_off c.args.t c.args.self.now.lists c.requires.off) in
    rw same c.join.ensures
