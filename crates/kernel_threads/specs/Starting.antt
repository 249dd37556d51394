-- A frame at the start of its body.
use Rattle.std.specs.Prelude.{ℕ}
use Rattle.words_numbers.specs.declared.res.Res.TheVariants as res
use Rattle.rules_bodies.specs.declared.cursor.Cursor.{Cursor}
use Rattle.rules_bodies.specs.Fetch.{started}
use Rattle.rules_machine.specs.State.{Frame}
use Rattle.rules_machine.specs.declared.frame.BodyOf.{BodyOf}
use Rattle.rules_machine.specs.declared.frame.FrameKind.{FrameKind}
use Rattle.rules_flat_code.specs.FlatBodies.{place_of}

-- at the start of the body of that number, with the value in its register
abbrev pub frame_at_start : FrameKind → BodyOf → ℕ → ℕ → Frame Cursor
frame_at_start kind body number value = record {
  kind = kind;
  body = body;
  place = place_of (started number 0);
  register = value;
  result = res.Zero;
  value = value;
  left = 0;
}
