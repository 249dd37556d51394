-- One more step at the end of a body.
use Rattle.std.proofs.Common.{ℕ, ◌+◌, ◌≤◌, ◌≡◌, List, [], ◌∷◌, ◌++◌, Option, None, Some, Bool, true, false, arith}
use Rattle.std.specs.Option.{option_map}
use Rattle.words_numbers.specs.declared.res.Res.{Res}
use Rattle.words_script.specs.Block.{Block}
use Rattle.words_script.specs.Tree.{block_of, step_count}
use Rattle.words_script.specs.declared.body.Step.{Step}
use Rattle.words_script.specs.declared.body.Step.TheVariants.{Run, Make, Set, Add, Take, Test, Loop, Guard}
use Rattle.rules_bodies.specs.Flat.{nesting}
use Rattle.script_table.specs.declared.form.StepForm.{StepForm}
use Rattle.script_table.specs.declared.form.StepForm.TheVariants as step
use Rattle.script_table.specs.declared.form.BlockForm.{BlockForm}
use Rattle.script_table.specs.declared.form.BlockForm.TheVariants as block
use Rattle.words_script.specs.declared.name_kind.NameKind.TheVariants.{Cleanup}
use Rattle.script_table.specs.Patterns.{greatest}
use Rattle.script_table.specs.Names.{Entry}
use Rattle.script_table.specs.Operands.{number_in, amount_at, answer_at, named_at}
use Rattle.script_table.specs.Meaning.{plain_step, block_step, test, repeat, guard}

-- a step by itself has at most so many steps, and so many blocks inside one another
pub record IsWithin (size depth : ℕ) (s : Step) : Type 0 where
  pub count : step_count (block_of (s ∷ [])) ≤ size
  pub nested : nesting (block_of (s ∷ [])) ≤ depth

-- where there is a step
abbrev pub AtMost : ℕ → ℕ → Option Step → Type 0
AtMost size depth None = Unit {0}
AtMost size depth (Some s) = IsWithin size depth s

pub count_more : (steps : List Step) (s : Step) → step_count (block_of (steps ++ s ∷ [])) ≡ step_count (block_of steps) + step_count (block_of (s ∷ []))
count_more [] s = omega arith
count_more (Run n ∷ steps) s = let h = count_more steps s in omega arith
count_more (Make call ∷ steps) s = let h = count_more steps s in omega arith
count_more (Set n ∷ steps) s = let h = count_more steps s in omega arith
count_more (Add n ∷ steps) s = let h = count_more steps s in omega arith
count_more (Take ∷ steps) s = let h = count_more steps s in omega arith
count_more (Test res equal body ∷ steps) s = let h = count_more steps s in omega arith
count_more (Loop times body ∷ steps) s = let h = count_more steps s in omega arith
count_more (Guard cleanup body run ∷ steps) s = let h = count_more steps s in omega arith

pub nesting_more : (steps : List Step) (s : Step) (limit : ℕ) → nesting (block_of steps) ≤ limit → nesting (block_of (s ∷ [])) ≤ limit →
    nesting (block_of (steps ++ s ∷ [])) ≤ limit
nesting_more [] s limit old new = new
nesting_more (Run n ∷ steps) s limit old new = nesting_more steps s limit old new
nesting_more (Make call ∷ steps) s limit old new = nesting_more steps s limit old new
nesting_more (Set n ∷ steps) s limit old new = nesting_more steps s limit old new
nesting_more (Add n ∷ steps) s limit old new = nesting_more steps s limit old new
nesting_more (Take ∷ steps) s limit old new = nesting_more steps s limit old new
nesting_more (Test res equal body ∷ steps) s limit old new = let h = nesting_more steps s limit (omega arith) new in omega arith
nesting_more (Loop times body ∷ steps) s limit old new = let h = nesting_more steps s limit (omega arith) new in omega arith
nesting_more (Guard cleanup body run ∷ steps) s limit old new = let h = nesting_more steps s limit (omega arith) new in omega arith

-- a step without a block
pub made_at_most : {A : Type 0} (make : A → Step) → ((x : A) → IsWithin 1 0 (make x)) → (o : Option A) → AtMost 1 0 (option_map make o)
made_at_most make each None = tt
made_at_most make each (Some x) = each x

pub plain_at_most : (f : StepForm) (words : List (List ℕ)) → AtMost 1 0 (plain_step f words)
plain_at_most step.Run words = made_at_most Run (λ n. record { count = omega arith; nested = omega arith }) (number_in 1 greatest 1 words)
plain_at_most step.Set words = made_at_most Set (λ n. record { count = omega arith; nested = omega arith }) (amount_at 1 words)
plain_at_most step.Add words = made_at_most Add (λ n. record { count = omega arith; nested = omega arith }) (amount_at 1 words)
plain_at_most step.Take words = record { count = omega arith; nested = omega arith }

-- a step with a block
test_at_most : (equal : Bool) (body : Block) (o : Option Res) → AtMost (1 + step_count body) (1 + nesting body) (test equal body o)
test_at_most equal body None = tt
test_at_most equal body (Some res) = record { count = omega arith; nested = omega arith }

repeat_at_most : (body : Block) (o : Option ℕ) → AtMost (1 + step_count body) (1 + nesting body) (repeat body o)
repeat_at_most body None = tt
repeat_at_most body (Some times) = record { count = omega arith; nested = omega arith }

guard_at_most : (run : Bool) (body : Block) (o : Option ℕ) → AtMost (1 + step_count body) (1 + nesting body) (guard run body o)
guard_at_most run body None = tt
guard_at_most run body (Some cleanup) = record { count = omega arith; nested = omega arith }

pub block_at_most : (es : List Entry) (f : BlockForm) (words : List (List ℕ)) (run : Bool) (body : Block) →
    AtMost (1 + step_count body) (1 + nesting body) (block_step es f words run body)
block_at_most es block.If words run body = test_at_most true body (answer_at 1 words)
block_at_most es block.Unless words run body = test_at_most false body (answer_at 1 words)
block_at_most es block.Loop words run body = repeat_at_most body (number_in 1 greatest 1 words)
block_at_most es block.Forever words run body = record { count = omega arith; nested = omega arith }
block_at_most es block.Push words run body = guard_at_most run body (named_at Cleanup es 1 words)
