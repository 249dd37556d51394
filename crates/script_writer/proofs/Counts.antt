-- How many steps a list of steps has, and its parts.
use Rattle.std.proofs.Common.{◌≡◌, ◌≤◌, ◌<◌, ℕ, zero, suc, List, [], ◌∷◌, length, get_or, ap, arith}
use Rattle.words_script.specs.declared.body.Step.{Step}
use Rattle.words_script.specs.declared.body.Step.TheVariants.{Run, Make, Set, Add, Take, Test, Loop, Guard}
use Rattle.words_script.specs.Block.{Block}
use Rattle.words_script.specs.Tree.{block_of, step_count}

pub one_le : (s : Step) (rest : List Step) → step_count (block_of (s ∷ [])) ≤ step_count (block_of (s ∷ rest))
one_le (Run n) rest = omega arith
one_le (Make call) rest = omega arith
one_le (Set n) rest = omega arith
one_le (Add n) rest = omega arith
one_le Take rest = omega arith
one_le (Test res equal body) rest = omega arith
one_le (Loop times body) rest = omega arith
one_le (Guard u body run) rest = omega arith

rest_le : (s : Step) (rest : List Step) → step_count (block_of rest) ≤ step_count (block_of (s ∷ rest))
rest_le (Run n) rest = omega arith
rest_le (Make call) rest = omega arith
rest_le (Set n) rest = omega arith
rest_le (Add n) rest = omega arith
rest_le Take rest = omega arith
rest_le (Test res equal body) rest = omega arith
rest_le (Loop times body) rest = omega arith
rest_le (Guard u body run) rest = omega arith

-- a step of a list has no more steps than the list
member_le : (steps : List Step) (i : ℕ) (d : Step) → i < length steps → step_count (block_of (get_or steps i d ∷ [])) ≤ step_count (block_of steps)
member_le [] i d h = absurd (omega arith)
member_le (s ∷ steps) zero d h = one_le s steps
member_le (s ∷ steps) (suc i) d h =
    let small : i < length steps = omega arith in
    let inner = member_le steps i d small in
    let outer = rest_le s steps in
    omega arith

pub item_le : (steps : List Step) (i : ℕ) (s : Step) (body : Block) → i < length steps → s ≡ get_or steps i s → body ≡ block_of steps → step_count (block_of (s ∷ [])) ≤ step_count body
item_le steps i s body h is whole =
    let small = member_le steps i s h in
    let here : step_count (block_of (s ∷ [])) ≡ step_count (block_of (get_or steps i s ∷ [])) = ap (λ x. step_count (block_of (x ∷ []))) is in
    let all : step_count body ≡ step_count (block_of steps) = ap step_count whole in
    omega arith
