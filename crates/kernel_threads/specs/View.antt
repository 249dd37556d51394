-- What contracts see of a frame.
use Rattle.rules_bodies.specs.declared.cursor.Cursor.{Cursor}
use Rattle.rules_machine.specs.State as machine
use Rattle.rules_flat_code.specs.FlatBodies.{place_of}
use Rattle.kernel_threads.specs.declared.frame.Frame.TheInside.{Inside}

abbrev pub frame_of : Inside → machine.Frame Cursor
frame_of f = record {
  kind = f.kind;
  body = f.body;
  place = place_of f.at;
  register = f.at.register;
  result = f.at.result;
  value = f.at.value;
  left = f.left;
}
