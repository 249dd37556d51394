-- When a search through operations is safe: a test passes over no more operations than there are, and the counted loops round an
-- operation are those that have passes left. The flat form of a body and the cursors in it are so.
use Rattle.std.specs.Prelude.{ℕ, ◌≡◌, ◌+◌, ◌-◌, ◌<◌, ◌≤◌, List, [], ◌∷◌, length, drop}
use Rattle.rules_bodies.specs.declared.cursor.Cursor.{Cursor}
use Rattle.rules_bodies.specs.declared.op.Op.{Op}
use Rattle.rules_bodies.specs.declared.op.Op.TheVariants as op

-- how many counted loops are open in front of operations: those that are closed behind and not begun there
abbrev pub open_loops : List Op → ℕ
open_loops [] = 0
open_loops (op.Begin n ∷ ops) = open_loops ops - 1
open_loops (op.Repeat first ∷ ops) = open_loops ops + 1
open_loops (o ∷ ops) = open_loops ops

-- operations through which a search is safe
abbrev pub IsSafe : List Op → Type 0
IsSafe [] = Unit {0}
IsSafe (op.Begin n ∷ ops) = ((0 < open_loops ops) × (open_loops ops ≤ 15)) × IsSafe ops
IsSafe (op.Test named equal skip ∷ ops) = ((skip ≤ length ops) × (open_loops (drop skip ops) ≡ open_loops ops)) × IsSafe ops
IsSafe (o ∷ ops) = IsSafe ops

-- the cursor has the passes of the loops that are open
pub record IsReady (ops : List Op) (c : Cursor) : Type 0 where
  pub loops : length c.counts.items ≡ open_loops ops
  pub few : length c.counts.items ≤ 15
  pub safe : IsSafe ops
