-- Counts below a bound.
use Rattle.std.specs.Prelude.{ℕ, ◌<◌}
use Rattle.script_table.specs.Names.{Counts}
use Rattle.script_table.specs.Ranges.{Tally}

pub record AreCountsBelow (c : Counts) (n : ℕ) : Type 0 where
  pub threads : c.threads < n
  pub mutexes : c.mutexes < n
  pub conds : c.conds < n
  pub sems : c.sems < n
  pub queues : c.queues < n
  pub timers : c.timers < n
  pub handlers : c.handlers < n
  pub cleanups : c.cleanups < n

pub record AreTallyBelow (t : Tally) (n : ℕ) : Type 0 where
  pub counts : AreCountsBelow t.counts n
  pub quanta : t.quanta < n
  pub steps : t.steps < n
  pub depth : t.depth < n
  pub pushes : t.pushes < n
