-- Steps at the end of a block: they keep their ranges, none pushes or pops by itself, and guarded blocks stand so deep at most.
use Rattle.std.proofs.Common.{Bool, List, None, Option, Some, [], arith, false, true, ℕ, ◌+◌, ◌≤◌, ◌∷◌, ◌++◌}
use Rattle.std.specs.Option.{option_map}
use Rattle.words_numbers.specs.declared.res.Res.{Res}
use Rattle.words_script.specs.Tree.{block_of}
use Rattle.words_script.specs.declared.body.Step.{Step}
use Rattle.words_script.specs.declared.call.Call.{Call}
use Rattle.words_script.specs.declared.body.Step.TheVariants.{Run, Make, Set, Add, Take, Test, Loop, Guard}
use Rattle.rules_machine.specs.WellFormed.{BlockFits, StepsPlain, guard_depth}
use Rattle.script_table.specs.declared.form.CallForm.{CallForm}
use Rattle.script_table.specs.declared.form.StepForm.{StepForm}
use Rattle.script_table.specs.declared.form.StepForm.TheVariants as step
use Rattle.script_table.specs.declared.form.BlockForm.{BlockForm}
use Rattle.script_table.specs.declared.form.BlockForm.TheVariants as block
use Rattle.words_script.specs.declared.name_kind.NameKind.TheVariants.{Cleanup}
use Rattle.script_table.specs.Patterns.{greatest}
use Rattle.script_table.specs.Names.{Entry}
use Rattle.script_table.specs.Operands.{number_in, amount_at, answer_at, named_at}
use Rattle.script_table.specs.Meaning.{plain_step, block_step, test, repeat, guard}
use Rattle.script_table.specs.Calls.{call_of}
use Rattle.laws_accepted.proofs.Operands.{Said}
use Rattle.laws_accepted.proofs.Calls.{IsPlainCall, call_plain}

-- steps, inside so many guarded blocks where so many are allowed
pub record AreSound (limit round : ℕ) (steps : List Step) : Type 0 where
  pub fits : BlockFits (block_of steps)
  pub plain : StepsPlain (block_of steps)
  pub deep : guard_depth (block_of steps) + round ≤ limit

abbrev pub IsSound : ℕ → ℕ → Step → Type 0
IsSound limit round s = AreSound limit round (s ∷ [])

-- ---- one step more

more_fit : (steps : List Step) (s : Step) → BlockFits (block_of steps) → BlockFits (block_of (s ∷ [])) → BlockFits (block_of (steps ++ s ∷ []))
more_fit [] s old new = new
more_fit (Run n ∷ steps) s old new = more_fit steps s old new
more_fit (Make call ∷ steps) s old new = (old.0, more_fit steps s old.1 new)
more_fit (Set n ∷ steps) s old new = more_fit steps s old new
more_fit (Add n ∷ steps) s old new = more_fit steps s old new
more_fit (Take ∷ steps) s old new = more_fit steps s old new
more_fit (Test res equal body ∷ steps) s old new = (old.0, more_fit steps s old.1 new)
more_fit (Loop times body ∷ steps) s old new = (old.0, more_fit steps s old.1 new)
more_fit (Guard cleanup body run ∷ steps) s old new = (old.0, more_fit steps s old.1 new)

more_plain : (steps : List Step) (s : Step) → StepsPlain (block_of steps) → StepsPlain (block_of (s ∷ [])) → StepsPlain (block_of (steps ++ s ∷ []))
more_plain [] s old new = new
more_plain (Run n ∷ steps) s old new = more_plain steps s old new
more_plain (Make call ∷ steps) s old new = (old.0, more_plain steps s old.1 new)
more_plain (Set n ∷ steps) s old new = more_plain steps s old new
more_plain (Add n ∷ steps) s old new = more_plain steps s old new
more_plain (Take ∷ steps) s old new = more_plain steps s old new
more_plain (Test res equal body ∷ steps) s old new = (old.0, more_plain steps s old.1 new)
more_plain (Loop times body ∷ steps) s old new = (old.0, more_plain steps s old.1 new)
more_plain (Guard cleanup body run ∷ steps) s old new = (old.0, more_plain steps s old.1 new)

more_deep : (steps : List Step) (s : Step) (limit round : ℕ) → guard_depth (block_of steps) + round ≤ limit → guard_depth (block_of (s ∷ [])) + round ≤ limit →
    guard_depth (block_of (steps ++ s ∷ [])) + round ≤ limit
more_deep [] s limit round old new = new
more_deep (Run n ∷ steps) s limit round old new = more_deep steps s limit round old new
more_deep (Make call ∷ steps) s limit round old new = more_deep steps s limit round old new
more_deep (Set n ∷ steps) s limit round old new = more_deep steps s limit round old new
more_deep (Add n ∷ steps) s limit round old new = more_deep steps s limit round old new
more_deep (Take ∷ steps) s limit round old new = more_deep steps s limit round old new
more_deep (Test res equal body ∷ steps) s limit round old new = let h = more_deep steps s limit round (omega arith) new in omega arith
more_deep (Loop times body ∷ steps) s limit round old new = let h = more_deep steps s limit round (omega arith) new in omega arith
more_deep (Guard cleanup body run ∷ steps) s limit round old new = let h = more_deep steps s limit round (omega arith) new in omega arith

pub more_sound : (limit round : ℕ) (steps : List Step) (s : Step) → AreSound limit round steps → IsSound limit round s → AreSound limit round (steps ++ s ∷ [])
more_sound limit round steps s old new = record {
  fits = more_fit steps s old.fits new.fits;
  plain = more_plain steps s old.plain new.plain;
  deep = more_deep steps s limit round old.deep new.deep;
}

-- ---- the step of a line

module _ (limit round : ℕ) (room : round ≤ limit) where
  made : {A : Type 0} (make : A → Step) → ((x : A) → IsSound limit round (make x)) → (o : Option A) → Said (IsSound limit round) (option_map make o)
  made make each None = tt
  made make each (Some x) = each x

  pub plain_sound : (f : StepForm) (words : List (List ℕ)) → Said (IsSound limit round) (plain_step f words)
  plain_sound step.Run words = made Run (λ n. record { fits = tt; plain = tt; deep = omega arith }) (number_in 1 greatest 1 words)
  plain_sound step.Set words = made Set (λ n. record { fits = tt; plain = tt; deep = omega arith }) (amount_at 1 words)
  plain_sound step.Add words = made Add (λ n. record { fits = tt; plain = tt; deep = omega arith }) (amount_at 1 words)
  plain_sound step.Take words = record { fits = tt; plain = tt; deep = omega arith }

  pub call_sound : (es : List Entry) (f : CallForm) (words : List (List ℕ)) → Said (IsSound limit round) (option_map Make (call_of es f words))
  call_sound es f words = by_call (call_of es f words) (call_plain es f words)
    where
      by_call : (o : Option Call) → Said IsPlainCall o → Said (IsSound limit round) (option_map Make o)
      by_call None h = tt
      by_call (Some c) h = record { fits = (h.fits, tt); plain = (h.plain, tt); deep = omega arith }

-- how many guarded blocks a block of this form is
abbrev pub own_guard : BlockForm → ℕ
own_guard block.Push = 1
own_guard other = 0

module _ (limit round : ℕ) (steps : List Step) where
  tests : (equal : Bool) (o : Option Res) → AreSound limit round steps → Said (IsSound limit round) (test equal (block_of steps) o)
  tests equal None h = tt
  tests equal (Some res) h = record { fits = (h.fits, tt); plain = (h.plain, tt); deep = (let d = h.deep in omega arith) }

  repeats : (o : Option ℕ) → AreSound limit round steps → Said (IsSound limit round) (repeat (block_of steps) o)
  repeats None h = tt
  repeats (Some times) h = record { fits = (h.fits, tt); plain = (h.plain, tt); deep = (let d = h.deep in omega arith) }

  guards : (run : Bool) (o : Option ℕ) → AreSound limit (1 + round) steps → Said (IsSound limit round) (guard run (block_of steps) o)
  guards run None h = tt
  guards run (Some cleanup) h = record { fits = (h.fits, tt); plain = (h.plain, tt); deep = (let d = h.deep in omega arith) }

  -- a block that is closed is a step of what it stands in
  pub block_sound : (es : List Entry) (f : BlockForm) (words : List (List ℕ)) (run : Bool) → AreSound limit (own_guard f + round) steps →
      Said (IsSound limit round) (block_step es f words run (block_of steps))
  block_sound es block.If words run h = tests true (answer_at 1 words) (record { fits = h.fits; plain = h.plain; deep = (let d = h.deep in omega arith) })
  block_sound es block.Unless words run h = tests false (answer_at 1 words) (record { fits = h.fits; plain = h.plain; deep = (let d = h.deep in omega arith) })
  block_sound es block.Loop words run h = repeats (number_in 1 greatest 1 words) (record { fits = h.fits; plain = h.plain; deep = (let d = h.deep in omega arith) })
  block_sound es block.Forever words run h = record { fits = (h.fits, tt); plain = (h.plain, tt); deep = (let d = h.deep in omega arith) }
  block_sound es block.Push words run h = guards run (named_at Cleanup es 1 words) h
