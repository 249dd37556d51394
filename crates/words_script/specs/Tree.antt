-- The tree of a list of steps.
use Rattle.std.specs.Prelude.{ℕ, ◌+◌, List, [], ◌∷◌}
use Rattle.words_script.specs.declared.body.Step.{Step}
use Rattle.words_script.specs.declared.body.Step.TheVariants.{Run, Make, Set, Add, Take, Test, Loop, Guard}
use Rattle.words_script.specs.Block.{Block, Nothing, Running, Making, Setting, Adding, Taking, Testing, Looping, Guarding}

abbrev pub block_of : List Step → Block
block_of [] = Nothing
block_of (Run n ∷ steps) = Running n (block_of steps)
block_of (Make call ∷ steps) = Making call (block_of steps)
block_of (Set n ∷ steps) = Setting n (block_of steps)
block_of (Add n ∷ steps) = Adding n (block_of steps)
block_of (Take ∷ steps) = Taking (block_of steps)
block_of (Test res equal body ∷ steps) = Testing res equal body (block_of steps)
block_of (Loop times body ∷ steps) = Looping times body (block_of steps)
block_of (Guard cleanup body run ∷ steps) = Guarding cleanup run body (block_of steps)

-- how many steps there are, those of inner blocks too
abbrev pub step_count : Block → ℕ
step_count Nothing = 0
step_count (Running n rest) = 1 + step_count rest
step_count (Making call rest) = 1 + step_count rest
step_count (Setting n rest) = 1 + step_count rest
step_count (Adding n rest) = 1 + step_count rest
step_count (Taking rest) = 1 + step_count rest
step_count (Testing res equal body rest) = (1 + step_count body) + step_count rest
step_count (Looping times body rest) = (1 + step_count body) + step_count rest
step_count (Guarding cleanup run body rest) = (1 + step_count body) + step_count rest
