-- The subjects of the facts of a state: they hang on how many threads and objects there are, and on nothing else. This project's own.
use Rattle.std.specs.Prelude.{length, map, ◌≡◌}
use Rattle.words_script.specs.declared.decl.Script.{Script}
use Rattle.rules_machine.specs.State.{Machine}
use Rattle.rules_facts.specs.Facts.{facts}
use Rattle.rules_facts.specs.Spelled.{subject}

-- two machines have as many lists, threads and objects of each kind
pub record HaveSameSizes {P : Type 0} (m n : Machine P) : Type 0 where
  pub lists : length m.lists ≡ length n.lists
  pub threads : length m.threads ≡ length n.threads
  pub mutexes : length m.mutexes ≡ length n.mutexes
  pub semaphores : length m.semaphores ≡ length n.semaphores
  pub queues : length m.queues ≡ length n.queues
  pub timers : length m.timers ≡ length n.timers
  pub actions : length m.actions ≡ length n.actions

-- their facts have the same subjects in the same order
abbrev pub HaveSameSubjects : {P : Type 0} → Script → Machine P → Machine P → Type 0
HaveSameSubjects script m n = map (subject script.decls) (facts script m) ≡ map (subject script.decls) (facts script n)
