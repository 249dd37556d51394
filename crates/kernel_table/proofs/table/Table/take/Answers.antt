use Rattle.std.proofs.Common.{ap, refl, rules}
use Rattle.parts_owners.specs.Chains.{Links}
use Rattle.kernel_table.proofs.Moved.{mutex_tied}
use Rattle.kernel_table.proofs.Ties.{placed}
use Rattle.kernel_table.proofs.ToldMoves.{told}
use Rattle.kernel_table.proofs.table.Table.take.Goals as goal

pub take-requires-clause-placed : goal.take-requires-clause-placed
take-requires-clause-placed c = placed c.self.inside.threads c.self.inside.chain c.self.inside.waits c.self.invariant.tied

pub invariant_of-self : goal.invariant_of-self
invariant_of-self c =
    let s = c.self.inside in
    let owned = c.take.ensures.changes in
    record {
      tied = mutex_tied s.threads s.chain c.take.new.self s.waits c.take.new.w (ap (λ (l : Links). l.claims) c.take.ensures.chain) (record { same = owned.same; stand = owned.placed.stand }) c.self.invariant.tied;
      armed = c.self.invariant.armed;
      kept = c.self.invariant.kept;
    }

pub returns-clause-change : goal.returns-clause-change
returns-clause-change c = record {
  table = (search rules);
  moved = (let s = c.self.inside in
      rw (← c.self.view_is, c.thread_of.ensures)
      (told s.timers s.threads s.threads s.chain c.take.new.self s.waits c.take.new.w c.take.result refl c.self.invariant.tied (invariant_of-self c).tied c.take.ensures.changes.moved));
}
