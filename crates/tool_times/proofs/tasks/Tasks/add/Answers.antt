use Rattle.std.proofs.Common.{rules}
use Rattle.tool_times.proofs.TaskSets.{more_tasks}
use Rattle.tool_times.proofs.tasks.Tasks.add.Goals as goal

pub invariant_of-self-2 : goal.invariant_of-self-2
invariant_of-self-2 c = more_tasks c.self.inside.list.items _ c.args.task c.self.invariant c.requires.task (search rules) (search rules)
