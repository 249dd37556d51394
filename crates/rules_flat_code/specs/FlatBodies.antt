-- The bodies of a script as flat code: where each begins, and what comes next at a place.
use Rattle.words_numbers.specs.declared.res.Res.TheVariants as res
use Rattle.std.specs.Prelude.{ℕ, List, length, slice_index_or}
use Rattle.words_script.specs.declared.decl.Script.{Script}
use Rattle.rules_bodies.specs.declared.cursor.Cursor.{Cursor}
use Rattle.rules_bodies.specs.declared.op.Op.{Op}
use Rattle.rules_bodies.specs.declared.unit.Unit as unit
use Rattle.rules_bodies.specs.Flat as flat
use Rattle.rules_bodies.specs.Fetch.{fetched, started}
use Rattle.rules_machine.specs.declared.frame.BodyOf.{BodyOf}
use Rattle.rules_machine.specs.declared.frame.BodyOf.TheVariants as body_of
use Rattle.rules_machine.specs.Bodies.{Bodies, NextUnit, Seen}

-- A body that is not there has the number past the last one, so it has no operations.
abbrev pub number_of : flat.NumberedBodies (List Op) → BodyOf → ℕ
number_of code (body_of.Thread t) = slice_index_or code.threads t (length code.all)
number_of code (body_of.Cleanup u) = slice_index_or code.cleanups u (length code.all)
number_of code (body_of.Handler h) = slice_index_or code.handlers h (length code.all)

-- the place alone: the frame keeps the register, the result and the value
abbrev pub place_of : Cursor → Cursor
place_of c = record c { register = 0; result = res.Zero; value = 0 }

-- the cursor at a place, with what is seen there
abbrev pub cursor_at : Cursor → Seen → Cursor
cursor_at place seen = record place { register = seen.register; result = seen.result; value = seen.value }

abbrev pub next_unit : Cursor × unit.Unit → NextUnit Cursor
next_unit (c, u) = record { unit = u; place = place_of c; register = c.register }

abbrev pub flat_bodies : flat.NumberedBodies (List Op) → Bodies Cursor
flat_bodies code = record {
  start = λ body. place_of (started (number_of code body) 0);
  next = λ body place seen. next_unit (fetched code (cursor_at place seen));
}

-- the flat code of a script
abbrev pub code_of : Script → flat.NumberedBodies (List Op)
code_of script = flat.flat_form (flat.bodies_of script.decls)
