-- Which cursors of the flat code stand for which places of a tree.
use Rattle.std.specs.Prelude.{ℕ, zero, suc, ◌≡◌, ◌+◌, ◌≤◌, None, Some, List, [], ◌∷◌, ◌++◌, slice_get}
use Rattle.words_script.specs.Block.{Block, Nothing, Testing, Looping, Guarding}
use Rattle.words_script.specs.Tree.{step_count}
use Rattle.rules_bodies.specs.declared.cursor.Cursor.{Cursor}
use Rattle.rules_bodies.specs.declared.op.Op.{Op}
use Rattle.rules_bodies.specs.declared.unit.Unit as unit
use Rattle.rules_bodies.specs.Next.{Place, At, In, next, rest_of, steps_from, register_limit}
use Rattle.rules_bodies.specs.Flat.{NumberedBodies, flat, op_number, nesting}

-- how many operations the first step of a block has
abbrev pub head_ops : Block → ℕ
head_ops Nothing = 0
head_ops (Testing named equal inner rest) = 1 + op_number inner
head_ops (Looping None inner rest) = 1 + op_number inner
head_ops (Looping (Some n) inner rest) = 2 + op_number inner
head_ops (Guarding cleanup run inner rest) = 2 + op_number inner
head_ops block = 1

-- the number of the operation of step i of a block whose first operation has the number `at`
abbrev pub step_at : ℕ → ℕ → Block → ℕ
step_at at zero block = at
step_at at (suc i) block = step_at (at + head_ops block) i (rest_of block)

-- something in the block of the first step, whose first operation has that number; where there is no block, the number itself
abbrev pub number_inside : (ℕ → Block → ℕ) → ℕ → Block → ℕ
number_inside inside at (Testing named equal inner rest) = inside (at + 1) inner
number_inside inside at (Looping None inner rest) = inside at inner
number_inside inside at (Looping (Some n) inner rest) = inside (at + 1) inner
number_inside inside at (Guarding cleanup run inner rest) = inside (at + 1) inner
number_inside inside at block = at

-- the number of the operation at a place
abbrev pub op_at : Place → ℕ → Block → ℕ
op_at (At i) at block = step_at at i block
op_at (In i passes place) at block = number_inside (λ at inner. op_at place at inner) (step_at at i block) (steps_from i block)

-- the passes left of the first step's loop, where it is a counted one, and then those inside
abbrev pub counts_inside : (List ℕ → Block → List ℕ) → ℕ → List ℕ → Block → List ℕ
counts_inside inside passes counts (Testing named equal inner rest) = inside counts inner
counts_inside inside passes counts (Looping None inner rest) = inside counts inner
counts_inside inside passes counts (Looping (Some n) inner rest) = inside (counts ++ passes ∷ []) inner
counts_inside inside passes counts (Guarding cleanup run inner rest) = inside counts inner
counts_inside inside passes counts block = counts

-- the passes left of the counted loops round a place, the innermost last, behind those of the loops round the block
abbrev pub counts_at : Place → List ℕ → Block → List ℕ
counts_at (At i) counts block = counts
counts_at (In i passes place) counts block =
    counts_inside (λ counts inner. counts_at place counts inner) passes counts (steps_from i block)

-- the body of a number, in code that is the flat form of its script
pub record IsBody (code : NumberedBodies (List Op)) (number : ℕ) (body : Block) : Type 0 where
  pub flat_form : slice_get code.all number ≡ Some (flat 0 body)
  pub short : step_count body ≤ 65536
  pub nested : nesting body ≤ 15

-- a cursor stands for a place of a body
pub record Stands (body : Block) (place : Place) (c : Cursor) : Type 0 where
  pub at : c.pc ≡ op_at place 0 body
  pub passes : c.counts.items ≡ counts_at place [] body
  pub register : c.register ≤ register_limit

-- a cursor stands for some place of its body
pub record IsPlaced (code : NumberedBodies (List Op)) (c : Cursor) : Type 0 where
  pub body : Block
  pub is_body : IsBody code c.body body
  pub place : Place
  pub stands : Stands body place c

-- a cursor and a unit are what the tree has next
pub record Fetches (body : Block) (place : Place) (old new : Cursor) (u : unit.Unit) : Type 0 where
  pub unit : u ≡ (next body place old.register old.result old.value).unit
  pub stands : Stands body (next body place old.register old.result old.value).place new
  pub register : new.register ≡ (next body place old.register old.result old.value).register
  pub body_same : new.body ≡ old.body
  pub result : new.result ≡ old.result
  pub value : new.value ≡ old.value
