-- The next unit of flat code, found by carrying out operations from a cursor on. This project's own.
use Rattle.std.specs.Prelude.{ℕ, zero, suc, ◌+◌, ◌-◌, Option, Some, Bool, true, false, if◌then◌else◌, List, [], ◌∷◌, ◌++◌, length, take, drop, slice_get, slice_index_or}
use Rattle.words_numbers.specs.declared.res.Res.TheVariants.{Zero}
use Rattle.rules_bodies.specs.declared.cursor.Cursor.{Cursor}
use Rattle.rules_bodies.specs.declared.op.Op.{Op}
use Rattle.rules_bodies.specs.declared.op.Op.TheVariants as op
use Rattle.rules_bodies.specs.declared.unit.Unit as unit
use Rattle.rules_bodies.specs.declared.unit.Unit.TheVariants.{Run, Make, Jump, Finish}
use Rattle.rules_bodies.specs.Flat.{NumberedBodies}
use Rattle.rules_bodies.specs.Next.{capped, holds}

-- What carrying out an operation comes to: a unit, or no time, where so many of the operations that follow are passed over.
pub data Effect : Type 0 where
  Gives : unit.Unit → Effect
  Skips : ℕ → Effect

-- the cursor at the next operation
abbrev pub moved_on : Cursor → Cursor
moved_on c = record c { pc = c.pc + 1 }

-- the passes left of the innermost counted loop, and those of the loops round it
abbrev pub innermost : List ℕ → Option ℕ
innermost counts = slice_get counts (length counts - 1)

abbrev pub outer : List ℕ → List ℕ
outer counts = take (length counts - 1) counts

-- the end of a pass of the innermost counted loop, whose first operation has that number
abbrev pub after_pass : ℕ → Option ℕ → Cursor → Cursor × Effect
after_pass first (Some (suc (suc passes))) c =
    (record c { pc = first; counts = record { items = outer c.counts.items ++ suc passes ∷ [] } }, Gives Jump)
after_pass first passes c = (record c { counts = record { items = outer c.counts.items } }, Skips 0)

-- the cursor behind a pass of the innermost counted loop, and whether another one is left
abbrev pub pass_ended : Option ℕ → Cursor → Cursor × Bool
pass_ended (Some (suc (suc passes))) c = (record c { counts = record { items = outer c.counts.items ++ suc passes ∷ [] } }, true)
pass_ended passes c = (record c { counts = record { items = outer c.counts.items } }, false)

-- how many operations an operation may pass over
abbrev pub most_skipped : Op → ℕ
most_skipped (op.Test named equal skip) = skip
most_skipped o = 0

-- what an operation does, and the cursor after it, which has moved on to the next operation before
abbrev pub carried_out : Op → Cursor → Cursor × Effect
carried_out (op.Run n) c = (c, Gives (Run n))
carried_out (op.Make call) c = (c, Gives (Make call))
carried_out (op.Set n) c = (record c { register = capped n }, Skips 0)
carried_out (op.Add n) c = (record c { register = capped (c.register + n) }, Skips 0)
carried_out op.Take c = (record c { register = capped c.value }, Skips 0)
carried_out (op.Test named equal skip) c = (c, Skips (if holds named equal c.result then 0 else skip))
carried_out (op.Begin times) c = (record c { counts = record { items = c.counts.items ++ times ∷ [] } }, Skips 0)
carried_out (op.Repeat first) c = after_pass first (innermost c.counts.items) c
carried_out (op.Again first) c = (record c { pc = first }, Gives Jump)

-- a unit is the end of the search, otherwise it goes on behind the operations that are passed over
abbrev pub or_search : Cursor × Effect → (ℕ → Cursor → Cursor × unit.Unit) → Cursor × unit.Unit
or_search (c, Gives u) search = (c, u)
or_search (c, Skips n) search = search n c

-- the first unit of the operations ahead of a cursor, so many of which are to be passed over, and the cursor after it
abbrev pub found_in : List Op → ℕ → Cursor → Cursor × unit.Unit
found_in [] skip c = (c, Finish)
found_in (o ∷ ops) (suc skip) c = found_in ops skip (moved_on c)
found_in (o ∷ ops) zero c = or_search (carried_out o (moved_on c)) (found_in ops)

-- the operations of a body
abbrev pub ops_of : NumberedBodies (List Op) → ℕ → List Op
ops_of code body = slice_index_or code.all body []

-- one body of the code, by its number
pub record OneBody : Type 0 where
  pub code : NumberedBodies (List Op)
  pub body : ℕ

-- the cursor after the next unit, and that unit
abbrev pub fetched : NumberedBodies (List Op) → Cursor → Cursor × unit.Unit
fetched code c = found_in (drop c.pc (ops_of code c.body)) 0 c

-- the cursor at the beginning of a body
abbrev pub started : ℕ → ℕ → Cursor
started body value = record { body = body; pc = 0; register = value; result = Zero; value = value; counts = record { items = [] } }
