-- The facts of a state of the machine, row by row. In a row threads and objects stand by number, and lists with the greatest priority
-- first. The rows and their order are this project's own.
use Rattle.std.specs.Prelude.{List, flat_map, map, ◌++◌}
use Rattle.words_script.specs.declared.decl.Script.{Script}
use Rattle.words_script.specs.declared.name_kind.NameKind.TheVariants as kind
use Rattle.script_writer.specs.Names.{names_of}
use Rattle.rules_machine.specs.Lists.{numbers}
use Rattle.rules_machine.specs.State.{Machine}
use Rattle.rules_machine.specs.Threads.{thread_numbers}
use Rattle.rules_facts.specs.Fact.{Fact}
use Rattle.rules_facts.specs.Lists.{list_facts}
use Rattle.rules_facts.specs.Objects.{condition_waiters, mutex_waiters, owner_fact, semaphore_fact, semaphore_waiters, timer_fact}
use Rattle.rules_facts.specs.Queues.{messages_fact, registration_fact, senders_and_receivers}
use Rattle.rules_facts.specs.Signals.{signal_fact}
use Rattle.rules_facts.specs.Threads.{cancelability_fact, cleanups_fact, frames_fact, mask_fact, pending_fact, thread_fact}

-- the rows of threads, each by number
abbrev pub facts_of_threads : {P : Type 0} → Machine P → List Fact
facts_of_threads m =
    map (thread_fact m) (thread_numbers m)
    ++ map (frames_fact m) (thread_numbers m)
    ++ map (mask_fact m) (thread_numbers m)
    ++ map (cancelability_fact m) (thread_numbers m)
    ++ map (cleanups_fact m) (thread_numbers m)
    ++ map (pending_fact m) (thread_numbers m)

-- the rows of objects; a machine keeps nothing of its conditions, so the script says how many there are
abbrev pub facts_of_objects : {P : Type 0} → Script → Machine P → List Fact
facts_of_objects script m =
    map (owner_fact m) (numbers m.mutexes)
    ++ map (mutex_waiters m) (numbers m.mutexes)
    ++ map (condition_waiters m) (numbers (names_of kind.Cond script.decls))
    ++ map (semaphore_waiters m) (numbers m.semaphores)
    ++ map (semaphore_fact m) (numbers m.semaphores)
    ++ map (messages_fact m) (numbers m.queues)
    ++ flat_map (senders_and_receivers m) (numbers m.queues)
    ++ map (registration_fact m) (numbers m.queues)
    ++ map (timer_fact m) (numbers m.timers)
    ++ map (signal_fact m) (numbers m.actions)

abbrev pub facts : {P : Type 0} → Script → Machine P → List Fact
facts script m = list_facts m.lists ++ (facts_of_threads m ++ facts_of_objects script m)
