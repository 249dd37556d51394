-- A body holds more steps than each of its inner bodies.
use Rattle.std.specs.Prelude.{◌≤◌, List, [], ◌∷◌}
use Rattle.std.proofs.Common.{arith}
use denote.Param.Weighed.{most}
use Rattle.words_script.specs.Tree.{block_of, step_count}
use Rattle.words_script.specs.declared.body.Step.{Step}
use Rattle.words_script.specs.declared.body.Step.TheVariants.{Run, Make, Set, Add, Take, Test, Loop, Guard}
use Rattle.words_script.specs.declared.body.Body.TheDeep.{deep-Step}

pub deep_le : (steps : List Step) → most deep-Step steps ≤ step_count (block_of steps)
deep_le [] = omega arith
deep_le (Run n ∷ steps) = let h = deep_le steps in omega arith
deep_le (Make call ∷ steps) = let h = deep_le steps in omega arith
deep_le (Set n ∷ steps) = let h = deep_le steps in omega arith
deep_le (Add n ∷ steps) = let h = deep_le steps in omega arith
deep_le (Take ∷ steps) = let h = deep_le steps in omega arith
deep_le (Test res equal body ∷ steps) = let h = deep_le steps in omega arith
deep_le (Loop times body ∷ steps) = let h = deep_le steps in omega arith
deep_le (Guard cleanup body run ∷ steps) = let h = deep_le steps in omega arith
