-- Units as they are fetched: a short call by itself, and any other by where it stands. This project's own.
use Rattle.std.specs.Prelude.{◌≡◌, ℕ, ◌+◌, Option, None, Some, List, slice_get}
use Rattle.words_script.specs.declared.call.Call.{Call}
use Rattle.words_script.specs.declared.call.Call.TheVariants as call
use Rattle.rules_bodies.specs.declared.cursor.Cursor.{Cursor}
use Rattle.rules_bodies.specs.declared.op.Op.{Op}
use Rattle.rules_bodies.specs.declared.op.Op.TheVariants as op
use Rattle.rules_bodies.specs.declared.unit.Unit as unit
use Rattle.rules_bodies.specs.declared.unit.Unit.TheVariants as a
use Rattle.script_code.specs.declared.fetched.CallPlace.{CallPlace}
use Rattle.script_code.specs.declared.fetched.Fetched.{Fetched}
use Rattle.script_code.specs.declared.fetched.Fetched.TheVariants.{Run, Jump, Make, Short, Finish}
use Rattle.script_code.specs.declared.ops.Packed.{Packed}
use Rattle.script_code.specs.declared.ops.Packed.TheVariants as kept
use Rattle.rules_bodies.specs.Fetch.{Effect, Gives, Skips, ops_of}
use Rattle.rules_bodies.specs.Flat.{NumberedBodies}
use Rattle.script_code.specs.ShortCall.{call_of_short}

-- the call that an operation makes; `yield` where it makes none
abbrev pub call_at : Option Op → Call
call_at (Some (op.Make made)) = made
call_at operation = call.Yield

-- the call that stands at a place of the code
abbrev pub call_of : NumberedBodies (List Op) → CallPlace → Call
call_of code place = call_at (slice_get (ops_of code place.body) place.op)

-- the unit that was fetched from a body of those operations
abbrev pub unit_in : List Op → Fetched → unit.Unit
unit_in ops (Run n) = a.Run n
unit_in ops (Make place) = a.Make (call_at (slice_get ops place.op))
unit_in ops Jump = a.Jump
unit_in ops Finish = a.Finish
unit_in ops (Short short) = a.Make (call_of_short short)

-- the unit that was fetched from some body of the code
abbrev pub unit_of : NumberedBodies (List Op) → Fetched → unit.Unit
unit_of code (Run n) = a.Run n
unit_of code (Make place) = a.Make (call_of code place)
unit_of code Jump = a.Jump
unit_of code Finish = a.Finish
unit_of code (Short short) = a.Make (call_of_short short)

-- a call that was fetched stands in that body
abbrev pub StandsIn : ℕ → Fetched → Type 0
StandsIn body (Make place) = place.body ≡ body
StandsIn body fetched = Unit {0}

-- a unit of a body, whose call is the operation of that number
abbrev pub fetched_at : ℕ → ℕ → unit.Unit → Fetched
fetched_at body number (a.Run n) = Run n
fetched_at body number (a.Make made) = Make (record { body = body; op = number })
fetched_at body number a.Jump = Jump
fetched_at body number a.Finish = Finish

-- the same of an operation that is kept so: a short call is told by itself
abbrev pub fetched_from : ℕ → ℕ → Packed → unit.Unit → Fetched
fetched_from body number (kept.Short short) u = Short short
fetched_from body number packed u = fetched_at body number u

-- what the effect of that operation comes to: the cursor behind the operations that are passed over, and the unit that is given, if any
abbrev pub told : ℕ → ℕ → Packed → Cursor × Effect → Cursor × Option Fetched
told body number packed (c, Gives u) = (c, Some (fetched_from body number packed u))
told body number packed (c, Skips n) = (record c { pc = c.pc + n }, None)
