-- How deep the message queues of a machine are. This project's own.
use Rattle.std.specs.Prelude.{List, map, ℕ, ◌≡◌}
use Rattle.words_script.specs.declared.decl.Script.{Script}
use Rattle.rules_machine.specs.Declarations.{queues_of}
use Rattle.rules_machine.specs.State.{Machine, Queue}

-- by number
abbrev pub depths : List Queue → List ℕ
depths queues = map (λ (q : Queue). q.depth) queues

-- the queues of a machine are as deep as a script declares them
abbrev pub HasDepthsOf : {P : Type 0} → Script → Machine P → Type 0
HasDepthsOf script m = depths m.queues ≡ depths (queues_of script)
