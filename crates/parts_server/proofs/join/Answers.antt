use Rattle.std.proofs.Common.{◌≡◌, ◌∷◌, ◌++◌, []}
use Rattle.rules_server.proofs.Laws.{joined_last}
use Rattle.parts_server.proofs.join.Goals as goal

pub returns : goal.returns
returns c =
    let items : c.args.pending.now.items ≡ c.pop.new.self.items ++ c.unwrap-last.result ∷ [] = rw c.unwrap-last.ensures at c.pop.ensures.items in
    rw items (rw (joined_last c.args.planned c.pop.new.self.items c.unwrap-last.result) c.push.ensures.items)
