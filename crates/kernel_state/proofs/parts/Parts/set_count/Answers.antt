use Rattle.std.proofs.Common.{ap, length}
use Rattle.parts_owners.specs.Chains.{counted}
use Rattle.kernel_table.specs.Table.{Table}
use Rattle.kernel_state.proofs.Carried.{none_mutex, tied_again}
use Rattle.kernel_state.proofs.StillModest.{mutex_modest}
use Rattle.kernel_state.proofs.parts.Parts.set_count.Goals as goal

pub invariant_of-self : goal.invariant_of-self
invariant_of-self c =
    let s = c.self.inside in
    let w = c.set_count in
    record {
      tied = tied_again s.names s.code s.ready.threads s.table.threads w.new.self.threads s.direct (ap (λ (x : Table). length x.threads) w.ensures.table) c.self.invariant.tied;
      stand = none_mutex s.table w.new.self s.ready.lists s.named.bits c.args.k (counted c.args.n) w.ensures.table w.ensures.same c.self.invariant.stand;
      modest = mutex_modest s.instant s.clock s.table w.new.self c.args.k (counted c.args.n) w.ensures.table c.self.invariant.modest;
    }
