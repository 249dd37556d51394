use Rattle.std.proofs.Common.{ap, refl, ◌∙◌}
use Rattle.rules_machine.specs.Mutexes.{freed}
use Rattle.parts_owners.specs.Chains.{Links}
use Rattle.kernel_table.specs.Table.{with_mutex}
use Rattle.kernel_table.proofs.Moved.{mutex_tied}
use Rattle.kernel_table.proofs.Ties.{placed}
use Rattle.kernel_table.proofs.ToldMoves.{table_with, told}
use Rattle.kernel_table.proofs.table.Table.release_in_full.Goals as goal

pub release-requires-clause-placed : goal.release-requires-clause-placed
release-requires-clause-placed c = placed c.self.inside.threads c.self.inside.chain c.self.inside.waits c.self.invariant.tied

pub invariant_of-self : goal.invariant_of-self
invariant_of-self c =
    let s = c.self.inside in
    let free = c.release.ensures.changes in
    record {
      tied = mutex_tied s.threads s.chain c.release.new.self s.waits c.release.new.w (ap (λ (l : Links). l.claims) c.release.ensures.chain) (record { same = free.same; stand = free.placed.stand }) c.self.invariant.tied;
      armed = c.self.invariant.armed;
      kept = c.self.invariant.kept;
    }

pub returns : goal.returns
returns c = record {
  table = (let s = c.self.inside in
      ap (table_with s.timers s.threads) c.release.ensures.chain ∙ ap (with_mutex c.args.k freed) c.self.view_is);
  moved = (let s = c.self.inside in
      rw (← c.self.view_is, c.thread_of.ensures)
      (told s.timers s.threads s.threads s.chain c.release.new.self s.waits c.release.new.w c.release.result refl c.self.invariant.tied (invariant_of-self c).tied c.release.ensures.changes.moved));
}
