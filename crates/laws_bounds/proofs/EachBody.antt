-- What holds of each call of each body of a script: it is enough that it holds of the calls that lines make, and of the two calls of
-- a guarded block.
use Rattle.std.proofs.Common.{ℕ, List, [], ◌∷◌, ◌++◌, Option, None, Some, Bool, true, false}
use Rattle.std.specs.Option.{IfSome, option_map}
use Rattle.words_numbers.specs.declared.res.Res.{Res}
use Rattle.words_script.specs.Block.{Block}
use Rattle.words_script.specs.Tree.{block_of}
use Rattle.words_script.specs.declared.body.Step.{Step}
use Rattle.words_script.specs.declared.body.Step.TheVariants.{Run, Make, Set, Add, Take, Test, Loop, Guard}
use Rattle.words_script.specs.declared.call.Call.{Call}
use Rattle.words_script.specs.declared.call.Call.TheVariants.{Push, Pop}
use Rattle.script_table.specs.declared.form.StepForm.{StepForm}
use Rattle.script_table.specs.declared.form.StepForm.TheVariants as step
use Rattle.script_table.specs.declared.form.BlockForm.{BlockForm}
use Rattle.script_table.specs.declared.form.BlockForm.TheVariants as block
use Rattle.words_script.specs.declared.name_kind.NameKind.TheVariants.{Cleanup}
use Rattle.script_table.specs.Patterns.{greatest}
use Rattle.script_table.specs.Names.{Entry}
use Rattle.script_table.specs.Operands.{number_in, amount_at, answer_at, named_at}
use Rattle.script_table.specs.Meaning.{plain_step, block_step, test, repeat, guard}
use Rattle.rules_flat_code.specs.EachCall.{EachCall}
use Rattle.laws_bounds.proofs.EachDecl.{OfStep}

-- the two calls of a guarded block
abbrev pub Guards : (Call → Type 0) → Bool → ℕ → Type 0
Guards P run u = P (Push u) × P (Pop run)

module _ (P : Call → Type 0) where
  abbrev pub OneStep : Step → Type 0
  OneStep s = OfStep (EachCall P) s

  pub more_calls : (steps : List Step) (s : Step) → EachCall P (block_of steps) → OneStep s → EachCall P (block_of (steps ++ s ∷ []))
  more_calls [] s all h = h
  more_calls (Run n ∷ steps) s all h = more_calls steps s all h
  more_calls (Make c ∷ steps) s all h = (all.0, more_calls steps s all.1 h)
  more_calls (Set n ∷ steps) s all h = more_calls steps s all h
  more_calls (Add n ∷ steps) s all h = more_calls steps s all h
  more_calls (Take ∷ steps) s all h = more_calls steps s all h
  more_calls (Test res equal body ∷ steps) s all h = (all.0, more_calls steps s all.1 h)
  more_calls (Loop times body ∷ steps) s all h = (all.0, more_calls steps s all.1 h)
  more_calls (Guard cleanup body run ∷ steps) s all h = (all.0, all.1, all.2, more_calls steps s all.3 h)

  -- a step that makes no call
  quiet : (make : ℕ → Step) → ((n : ℕ) → OneStep (make n)) → (o : Option ℕ) → IfSome (option_map make o) OneStep
  quiet make each None = tt
  quiet make each (Some n) = each n

  pub plain_calls : (f : StepForm) (words : List (List ℕ)) → IfSome (plain_step f words) OneStep
  plain_calls step.Run words = quiet Run (λ n. tt) (number_in 1 greatest 1 words)
  plain_calls step.Set words = quiet Set (λ n. tt) (amount_at 1 words)
  plain_calls step.Add words = quiet Add (λ n. tt) (amount_at 1 words)
  plain_calls step.Take words = tt

  test_calls : (equal : Bool) (body : Block) → EachCall P body → (o : Option Res) → IfSome (test equal body o) OneStep
  test_calls equal body inside None = tt
  test_calls equal body inside (Some res) = (inside, tt)

  repeat_calls : (body : Block) → EachCall P body → (o : Option ℕ) → IfSome (repeat body o) OneStep
  repeat_calls body inside None = tt
  repeat_calls body inside (Some times) = (inside, tt)

  guard_calls : (run : Bool) (body : Block) → EachCall P body → (o : Option ℕ) → IfSome o (Guards P run) → IfSome (guard run body o) OneStep
  guard_calls run body inside None both = tt
  guard_calls run body inside (Some cleanup) both = (both.0, both.1, inside, tt)

  -- what is asked of a line that opens a block
  abbrev pub GuardsBy : List Entry → BlockForm → List (List ℕ) → Bool → Type 0
  GuardsBy es block.Push words run = IfSome (named_at Cleanup es 1 words) (Guards P run)
  GuardsBy es other words run = Unit {0}

  pub block_calls : (es : List Entry) (f : BlockForm) (words : List (List ℕ)) (run : Bool) (body : Block) → GuardsBy es f words run → EachCall P body
      → IfSome (block_step es f words run body) OneStep
  block_calls es block.If words run body guards inside = test_calls true body inside (answer_at 1 words)
  block_calls es block.Unless words run body guards inside = test_calls false body inside (answer_at 1 words)
  block_calls es block.Loop words run body guards inside = repeat_calls body inside (number_in 1 greatest 1 words)
  block_calls es block.Forever words run body guards inside = (inside, tt)
  block_calls es block.Push words run body guards inside = guard_calls run body inside (named_at Cleanup es 1 words) guards
