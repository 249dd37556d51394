use Rattle.std.proofs.Common.{ap, length}
use Rattle.rules_machine.specs.Mutexes.{taken_by}
use Rattle.rules_machine.specs.State.{Mutex}
use Rattle.kernel_table.specs.Table.{Table}
use Rattle.kernel_state.proofs.Carried.{fit, tied_again, told_mutex, told_there}
use Rattle.kernel_state.proofs.StillModest.{mutex_modest}
use Rattle.kernel_state.proofs.parts.Parts.take_mutex.Goals as goal

pub invariant_of-self : goal.invariant_of-self
invariant_of-self c =
    let s = c.self.inside in
    let w = c.take-moved in
    let f : Mutex → Mutex = taken_by c.args.t in
    record {
      tied = tied_again s.names s.code s.ready.threads s.table.threads w.new.self.threads s.direct (ap (λ (x : Table). length x.threads) w.ensures.change.table) c.self.invariant.tied;
      stand = told_mutex s.table w.new.self s.ready.lists s.named.bits c.take_in.new.self.bits c.args.k f w.result w.ensures.change.table c.take_in.ensures w.ensures.change.moved c.self.invariant.stand;
      modest = mutex_modest s.instant s.clock s.table w.new.self c.args.k f w.ensures.change.table c.self.invariant.modest;
    }

pub take_in-requires : goal.take_in-requires
take_in-requires c =
    let s = c.self.inside in
    let w = c.take-moved in
    fit s.table w.new.self w.result (ap (λ (x : Table). length x.threads) w.ensures.change.table) c.self.invariant.tied.few (told_there s.table w.new.self w.result w.ensures.change.moved)
