-- How a reading ends that gives no script.
use Rattle.std.specs.Prelude.{◌≡◌, ℕ, List, ◌++◌, codes, decimal, Option, Some, Result, Ok, Err}
use Rattle.std.specs.Option.{option_map}
use Rattle.words_script.specs.declared.decl.Script.{Script}
use Rattle.script_table.specs.Faults.{Fault, fault, name_of}
use Rattle.script_table.specs.Heading.{Beginning}
use Rattle.script_reader.specs.declared.end.ScriptEnd.{ScriptEnd}
use Rattle.script_reader.specs.declared.end.ScriptEnd.TheVariants as end

-- a fault, as it is answered
abbrev pub answered : Fault → ScriptEnd
answered f = end.Fault f.line f.kind

-- the end is want of memory, or the fault that is answered
abbrev pub EndsBy : ScriptEnd → Option Fault → Type 0
EndsBy end.OutOfMemory least = Unit {0}
EndsBy (end.Fault line kind) least = option_map answered least ≡ Some (end.Fault line kind)

-- the end is want of memory, or the fault that the heading has
abbrev pub EndsHeading : ScriptEnd → Result Beginning Fault → Type 0
EndsHeading end.OutOfMemory found = Unit {0}
EndsHeading (end.Fault line kind) found = found ≡ Err (fault 1 line kind)

-- a fault is answered, by its line and kind, exactly where the least fault is read in place of a script
abbrev pub IsRefusal : ScriptEnd → Result Script Fault → Type 0
IsRefusal end.OutOfMemory found = Unit {0}
IsRefusal (end.Fault line kind) (Ok script) = ⊥
IsRefusal (end.Fault line kind) (Err f) = (f.line ≡ line) × (f.kind ≡ kind)

-- what is shown of it
abbrev pub text_of : ScriptEnd → List ℕ
text_of (end.Fault line kind) = codes "line " ++ decimal line ++ codes ": " ++ name_of kind
text_of end.OutOfMemory = codes "out of memory"
