-- How a reading ends that gives no tasks.
use Rattle.std.specs.Prelude.{◌≡◌, ℕ, Some, List, ◌++◌, slice_get, Result, Ok, Err, codes, decimal}
use Rattle.tool_times.specs.declared.task.Task.{Task}
use Rattle.tool_times.specs.declared.end.RtaEnd.{RtaEnd}
use Rattle.tool_times.specs.declared.end.RtaEnd.TheVariants as end
use Rattle.tool_times.specs.Faults.{Fault, name_of}

-- the end is want of memory, or the first of these faults
abbrev pub EndsBy : RtaEnd → List Fault → Type 0
EndsBy end.OutOfMemory faults = Unit {0}
EndsBy (end.Fault line kind) faults = slice_get faults 0 ≡ Some (record { line = line; kind = kind })

-- a fault is answered, by its line and kind, exactly where the least fault is read in place of tasks
abbrev pub IsRefusal : RtaEnd → Result (List Task) Fault → Type 0
IsRefusal end.OutOfMemory found = Unit {0}
IsRefusal (end.Fault line kind) (Ok tasks) = ⊥
IsRefusal (end.Fault line kind) (Err f) = (f.line ≡ line) × (f.kind ≡ kind)

-- what is shown of it
abbrev pub text_of : RtaEnd → List ℕ
text_of (end.Fault line kind) = codes "line " ++ decimal line ++ codes ": " ++ name_of kind
text_of end.OutOfMemory = codes "out of memory"
