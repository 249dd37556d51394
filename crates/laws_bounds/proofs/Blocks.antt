-- What is open while lines are read: how deep it is, and how many steps it holds.
use Rattle.std.proofs.Common.{ℕ, ◌+◌, ◌-◌, ◌≤◌, ◌≡◌, max, List, [], ◌∷◌, length, Option, None, Some, Bool, refl, ◌∙◌, arith}
use Rattle.words_script.specs.Tree.{block_of, step_count}
use Rattle.words_script.specs.declared.body.Step.{Step}
use Rattle.words_script.specs.declared.decl.Decl.{Decl}
use Rattle.rules_bodies.specs.Flat.{nesting}
use Rattle.script_table.specs.declared.form.Form.{Form}
use Rattle.script_table.specs.declared.form.Form.TheVariants as form
use Rattle.script_table.specs.Names.{Entry}
use Rattle.script_table.specs.Meaning.{block_step}
use Rattle.script_table.specs.Build.{Opened, put_step, close_one, closed}
use Rattle.laws_bounds.proofs.Steps.{AtMost, count_more, nesting_more, block_at_most}

-- a block is a step of what it stands in, and a body is not
abbrev pub own_step : Form → ℕ
own_step (form.Block f) = 1
own_step other = 0

-- the steps of what is open, where an open block counts as one
abbrev pub open_steps : List Opened → ℕ
open_steps [] = 0
open_steps (o ∷ blocks) = (own_step o.form + step_count (block_of o.steps)) + open_steps blocks

-- What stands in a body or block at this level, the outermost at level 1, leaves its body at most 15 deep. A body may stand deeper
-- than 16, and a block in it may not.
pub record Level (o : Opened) (level : ℕ) : Type 0 where
  pub nested : nesting (block_of o.steps) + level ≤ max 16 level
  pub shallow : own_step o.form ≡ 1 → level ≤ 16

abbrev pub Levels : List Opened → Type 0
Levels [] = Unit {0}
Levels (o ∷ blocks) = Level o (length blocks + 1) × Levels blocks

-- what is open against the tally of the lines
pub record Within (depth steps : ℕ) (blocks : List Opened) : Type 0 where
  pub deep : depth ≡ length blocks
  pub held : open_steps blocks ≤ steps
  pub levels : Levels blocks

put_length : (d : Option Step) (blocks : List Opened) → length (put_step d blocks) ≡ length blocks
put_length None blocks = refl
put_length (Some s) [] = refl
put_length (Some s) (o ∷ blocks) = refl

put_held : (d : Option Step) (size depth : ℕ) (blocks : List Opened) → AtMost size depth d → open_steps (put_step d blocks) ≤ open_steps blocks + size
put_held None size depth blocks most = omega arith
put_held (Some s) size depth [] most = omega arith
put_held (Some s) size depth (o ∷ blocks) most = let e = count_more o.steps s in omega arith

put_levels : (d : Option Step) (size depth : ℕ) (blocks : List Opened) → AtMost size depth d → depth + length blocks ≤ max 16 (length blocks) →
    Levels blocks → Levels (put_step d blocks)
put_levels None size depth blocks most fits levels = levels
put_levels (Some s) size depth [] most fits levels = tt
put_levels (Some s) size depth (o ∷ blocks) most fits (level, levels) =
    let old : nesting (block_of o.steps) ≤ max 16 (length blocks + 1) - (length blocks + 1) = omega (arith, level.nested) in
    let new : nesting (block_of (s ∷ [])) ≤ max 16 (length blocks + 1) - (length blocks + 1) = omega (arith, most.nested) in
    let h = nesting_more o.steps s (max 16 (length blocks + 1) - (length blocks + 1)) old new in
    (record { nested = omega arith; shallow = level.shallow }, levels)

-- with one more step in the innermost
pub put_within : (d : Option Step) (size inner depth steps steps' : ℕ) (blocks : List Opened) → AtMost size inner d →
    inner + length blocks ≤ max 16 (length blocks) → steps + size ≤ steps' → Within depth steps blocks → Within depth steps' (put_step d blocks)
put_within d size inner depth steps steps' blocks most fits room w =
    let e = put_length d blocks in
    let h = put_held d size inner blocks most in
    record { deep = omega arith; held = omega arith; levels = put_levels d size inner blocks most fits w.levels }

-- a body or block opens; a block not deeper than 16
pub opens_within : (f : Form) (words : List (List ℕ)) (depth steps depth' steps' : ℕ) (blocks : List Opened) → depth' ≡ depth + 1 →
    steps + own_step f ≤ steps' → (own_step f ≡ 1 → depth' ≤ 16) → Within depth steps blocks →
    Within depth' steps' (record { form = f; words = words; steps = [] } ∷ blocks)
opens_within f words depth steps depth' steps' blocks deeper room shallow w = record {
  deep = omega (arith, w.deep);
  held = omega (arith, w.held);
  levels = (record { nested = omega arith; shallow = λ e. let h = shallow e in omega (arith, w.deep) }, w.levels);
}

-- the innermost is closed
one_closes : (es : List Entry) (q : ℕ) (ds : List Decl) (run : Bool) (f : Form) (words : List (List ℕ)) (ss : List Step) (depth steps : ℕ) (blocks : List Opened) →
    Within depth steps (record { form = f; words = words; steps = ss } ∷ blocks) →
    Within (depth - 1) steps (close_one es (record { quantum = q; blocks = blocks; decls = ds }) run f words ss).blocks
one_closes es q ds run (form.Block f) words ss depth steps blocks w =
    let level : length blocks + 1 ≤ 16 = w.levels.0.shallow refl in
    let nested : nesting (block_of ss) + (length blocks + 1) ≤ max 16 (length blocks + 1) = w.levels.0.nested in
    let held : (1 + step_count (block_of ss)) + open_steps blocks ≤ steps = w.held in
    put_within (block_step es f words run (block_of ss)) (1 + step_count (block_of ss)) (1 + nesting (block_of ss)) (depth - 1) (open_steps blocks) steps blocks
    (block_at_most es f words run (block_of ss)) (omega arith) (omega arith)
    (record { deep = omega (arith, w.deep); held = omega arith; levels = w.levels.1 })
one_closes es q ds run other words ss depth steps blocks w =
    record { deep = omega (arith, w.deep); held = omega (arith, w.held); levels = w.levels.1 }

pub closes_within : (es : List Entry) (q : ℕ) (blocks : List Opened) (ds : List Decl) (run : Bool) (depth steps depth' steps' : ℕ) → depth' ≡ depth - 1 →
    steps' ≡ steps → Within depth steps blocks →
    Within depth' steps' (closed es (record { quantum = q; blocks = blocks; decls = ds }) run blocks).blocks
closes_within es q [] ds run depth steps depth' steps' less same w = record { deep = omega (arith, w.deep); held = omega (arith, w.held); levels = tt }
closes_within es q (o ∷ blocks) ds run depth steps depth' steps' less same w =
    let closed = one_closes es q ds run o.form o.words o.steps depth steps blocks w in
    record { deep = less ∙ closed.deep; held = omega (arith, closed.held); levels = closed.levels }
