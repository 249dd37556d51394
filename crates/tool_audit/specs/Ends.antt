-- How a reading of a head ends that gives no servers.
use Rattle.std.specs.Prelude.{◌≡◌, ℕ, Some, List, ◌++◌, slice_get, Result, Ok, Err, codes, decimal}
use Rattle.tool_audit.specs.declared.end.AuditEnd.{AuditEnd}
use Rattle.tool_audit.specs.declared.end.AuditEnd.TheVariants as end
use Rattle.tool_audit.specs.Server.{NamedServer}
use Rattle.tool_audit.specs.Faults.{Fault, name_of}
use Rattle.tool_audit.specs.Watch.{Watch, begun}

-- the end is want of memory, or the first of these faults
abbrev pub EndsBy : AuditEnd → List Fault → Type 0
EndsBy end.OutOfMemory faults = Unit {0}
EndsBy (end.Fault line kind) faults = slice_get faults 0 ≡ Some (record { line = line; kind = kind })

-- a fault is answered, by its line and kind, exactly where the least fault is read in place of servers
abbrev pub IsRefusal : AuditEnd → Result (List NamedServer) Fault → Type 0
IsRefusal end.OutOfMemory found = Unit {0}
IsRefusal (end.Fault line kind) (Ok servers) = ⊥
IsRefusal (end.Fault line kind) (Err f) = (f.line ≡ line) × (f.kind ≡ kind)

-- the audit is about the servers that are read, and no line was read
abbrev pub IsOpened : Watch → Result (List NamedServer) Fault → Type 0
IsOpened a (Ok servers) = a ≡ begun servers
IsOpened a (Err f) = ⊥

-- what is shown of it
abbrev pub text_of : AuditEnd → List ℕ
text_of (end.Fault line kind) = codes "line " ++ decimal line ++ codes ": " ++ name_of kind
text_of end.OutOfMemory = codes "out of memory"
