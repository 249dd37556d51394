-- What is promised of the run of every script, at each instant. All of it is this project's own.
use Rattle.std.specs.Prelude.{List, [], ℕ, ◌∷◌, ◌++◌}
use Rattle.words_script.specs.Block.{Block, Guarding, Looping, Testing}
use Rattle.words_script.specs.declared.decl.Script.{Script}
use Rattle.rules_bodies.specs.Next.{At, In, Place, steps_from}
use Rattle.rules_machine.specs.declared.frame.BodyOf.{BodyOf}
use Rattle.rules_machine.specs.Runs.{opening}
use Rattle.rules_machine.specs.Eventful.{busy}
use Rattle.rules_machine.specs.Budget.{KeepsBudgets}
use Rattle.rules_machine.specs.GoodState.{StaysGood}
use Rattle.rules_machine.specs.Machine.{body_tree, bodies_of}

-- the cleanup handlers that a step's block has pushed, behind those that stand inside it
abbrev pub guards_at : (Block → List ℕ) → Block → List ℕ
guards_at inside (Guarding cleanup run inner rest) = inside inner ++ cleanup ∷ []
guards_at inside (Testing named equal inner rest) = inside inner
guards_at inside (Looping times inner rest) = inside inner
guards_at inside block = []

-- the cleanup handlers that the blocks round a place have pushed, the innermost first
abbrev pub guards_round : Place → Block → List ℕ
guards_round (At i) block = []
guards_round (In i passes place) block = guards_at (guards_round place) (steps_from i block)

abbrev pub guards_in : Script → BodyOf → Place → List ℕ
guards_in script body place = guards_round place (body_tree script body)

-- every state of the run is good, also those between the items of an instant
abbrev pub RunStaysGood : Script → Type 0
RunStaysGood script = StaysGood (bodies_of script) (guards_in script) (opening script)

-- and the law of the budget holds in each
pub record RunKeepsBudgets (script : Script) : Type 0 where
  pub each : (n k : ℕ) → KeepsBudgets (bodies_of script) (opening script) n k

-- how many eventful instants its run has between two instants, neither of them counted
abbrev pub busy_between : Script → ℕ → ℕ → ℕ
busy_between script a b = busy (bodies_of script) (opening script) a b
