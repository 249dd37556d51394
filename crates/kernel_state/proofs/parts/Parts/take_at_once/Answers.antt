use Rattle.std.proofs.Common.{ap, length}
use Rattle.parts_owners.specs.Chains.{taken_if}
use Rattle.kernel_table.specs.Table.{Table}
use Rattle.kernel_state.proofs.Carried.{none_mutex, tied_again}
use Rattle.kernel_state.proofs.StillModest.{mutex_modest}
use Rattle.kernel_state.proofs.parts.Parts.take_at_once.Goals as goal

pub invariant_of-self : goal.invariant_of-self
invariant_of-self c =
    let s = c.self.inside in
    let w = c.take_at_once in
    record {
      tied = tied_again s.names s.code s.ready.threads s.table.threads w.new.self.threads s.direct (ap (λ (x : Table). length x.threads) w.ensures.change.table) c.self.invariant.tied;
      stand = none_mutex s.table w.new.self s.ready.lists s.named.bits c.args.k (taken_if w.result c.args.t) w.ensures.change.table w.ensures.change.same c.self.invariant.stand;
      modest = mutex_modest s.instant s.clock s.table w.new.self c.args.k (taken_if w.result c.args.t) w.ensures.change.table c.self.invariant.modest;
    }
