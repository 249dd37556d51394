-- Frames that are at places of the code.
use Rattle.std.specs.Prelude.{List, [], ◌∷◌}
use Rattle.rules_bodies.specs.declared.cursor.Cursor.{Cursor}
use Rattle.rules_bodies.specs.declared.op.Op.{Op}
use Rattle.rules_bodies.specs.Flat.{NumberedBodies}
use Rattle.rules_bodies.specs.Stands.{IsPlaced}
use Rattle.rules_machine.specs.Bodies.{seen_by}
use Rattle.rules_machine.specs.State.{Frame}
use Rattle.rules_flat_code.specs.FlatBodies.{cursor_at}

abbrev pub cursor_of : Frame Cursor → Cursor
cursor_of f = cursor_at f.place (seen_by f)

abbrev pub ArePlaced : NumberedBodies (List Op) → List (Frame Cursor) → Type 0
ArePlaced code [] = Unit {0}
ArePlaced code (f ∷ fs) = IsPlaced code (cursor_of f) × ArePlaced code fs
