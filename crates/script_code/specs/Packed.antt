-- How the operations of a body are kept: a call in its operation where it is short, and else in a table, by its number there. This project's own.
use Rattle.std.specs.Prelude.{◌<◌, List, [], ◌∷◌, length, map, get_or}
use Rattle.words_script.specs.declared.call.Call.{Call}
use Rattle.words_script.specs.declared.call.Call.TheVariants as call
use Rattle.rules_bodies.specs.declared.op.Op.{Op}
use Rattle.rules_bodies.specs.declared.op.Op.TheVariants as op
use Rattle.script_code.specs.declared.ops.Packed.{Packed}
use Rattle.script_code.specs.declared.ops.Packed.TheVariants.{Run, Make, Short, Set, Add, Take, Test, Begin, Repeat, Again}
use Rattle.script_code.specs.ShortCall.{call_of_short}

-- the operation that is kept so, beside those calls
abbrev pub unpacked : List Call → Packed → Op
unpacked calls (Run n) = op.Run n
unpacked calls (Make number) = op.Make (get_or calls number call.Yield)
unpacked calls (Short short) = op.Make (call_of_short short)
unpacked calls (Set n) = op.Set n
unpacked calls (Add n) = op.Add n
unpacked calls Take = op.Take
unpacked calls (Test named equal skip) = op.Test named equal skip
unpacked calls (Begin times) = op.Begin times
unpacked calls (Repeat first) = op.Repeat first
unpacked calls (Again first) = op.Again first

-- those of a body
abbrev pub all_unpacked : List Call → List Packed → List Op
all_unpacked calls packed = map (unpacked calls) packed

-- the call of an operation, if it makes one, is in the table
abbrev pub IsIn : List Call → Packed → Type 0
IsIn calls (Make number) = number < length calls
IsIn calls packed = Unit {0}

abbrev pub AreIn : List Call → List Packed → Type 0
AreIn calls [] = Unit {0}
AreIn calls (p ∷ packed) = IsIn calls p × AreIn calls packed
