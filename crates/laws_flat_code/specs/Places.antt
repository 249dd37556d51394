-- The place in flat code that stands for a place in a body of the script. All of it is this project's own.
use Rattle.std.specs.Prelude.{[], ℕ}
use Rattle.words_numbers.specs.declared.res.Res.TheVariants as res
use Rattle.words_script.specs.Block.{Block}
use Rattle.words_script.specs.declared.decl.Script.{Script}
use Rattle.rules_bodies.specs.declared.cursor.Cursor.{Cursor}
use Rattle.rules_bodies.specs.Next.{Place}
use Rattle.rules_bodies.specs.Stands.{counts_at, op_at}
use Rattle.rules_machine.specs.declared.frame.BodyOf.{BodyOf}
use Rattle.rules_machine.specs.Machine.{body_tree}
use Rattle.rules_flat_code.specs.FlatBodies.{code_of, number_of}

-- the cursor at a place of a body
abbrev pub at_place : ℕ → Block → Place → Cursor
at_place n body place = record { body = n; pc = op_at place 0 body; register = 0; result = res.Zero; value = 0; counts = record { items = counts_at place [] body } }

abbrev pub carry : Script → BodyOf → Place → Cursor
carry script b place = at_place (number_of (code_of script) b) (body_tree script b) place
