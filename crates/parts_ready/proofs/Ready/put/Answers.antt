use Rattle.std.proofs.Common.{◌≡◌, ap}
use Rattle.rules_lists.specs.Lists.{ReadyLists, times_in_all}
use Rattle.parts_ready.proofs.Places.{times_gone_in_all}
use Rattle.parts_ready.proofs.Nodes.{off_lists}
use Rattle.parts_ready.proofs.Ready.put.Goals as goal

pub join-requires-clause-off : goal.join-requires-clause-off
join-requires-clause-off c =
    let lists = c.remove.new.self.lists in
    let gone = ap (λ (r : ReadyLists). r.lists) c.remove.ensures in
    let none : times_in_all c.args.t lists ≡ 0 = rw gone (times_gone_in_all c.args.t c.args.self.now.lists) in
    off_lists c.args.t lists none
