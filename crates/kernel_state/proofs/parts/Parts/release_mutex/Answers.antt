use Rattle.std.proofs.Common.{ap, length}
use Rattle.rules_machine.specs.Mutexes.{freed}
use Rattle.rules_machine.specs.State.{Mutex}
use Rattle.kernel_table.specs.Table.{Table}
use Rattle.kernel_state.proofs.Carried.{fit, tied_again, told_mutex, told_there}
use Rattle.kernel_state.proofs.StillModest.{mutex_modest}
use Rattle.kernel_state.proofs.parts.Parts.release_mutex.Goals as goal

pub invariant_of-self : goal.invariant_of-self
invariant_of-self c =
    let s = c.self.inside in
    let w = c.release-moved in
    let f : Mutex → Mutex = freed in
    record {
      tied = tied_again s.names s.code s.ready.threads s.table.threads w.new.self.threads s.direct (ap (λ (x : Table). length x.threads) w.ensures.table) c.self.invariant.tied;
      stand = told_mutex s.table w.new.self s.ready.lists s.named.bits c.take_in.new.self.bits c.args.k f w.result w.ensures.table c.take_in.ensures w.ensures.moved c.self.invariant.stand;
      modest = mutex_modest s.instant s.clock s.table w.new.self c.args.k f w.ensures.table c.self.invariant.modest;
    }

pub take_in-requires : goal.take_in-requires
take_in-requires c =
    let s = c.self.inside in
    let w = c.release-moved in
    fit s.table w.new.self w.result (ap (λ (x : Table). length x.threads) w.ensures.table) c.self.invariant.tied.few (told_there s.table w.new.self w.result w.ensures.moved)
