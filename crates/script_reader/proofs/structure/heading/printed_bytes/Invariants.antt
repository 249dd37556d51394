use Rattle.script_reader.proofs.Headings.{Printing}
use Rattle.script_reader.proofs.structure.heading.printed_bytes.Given as goal

abbrev pub invariant-loop-byte : goal.invariant-loop-byte
invariant-loop-byte l = Printing l.line l.byte-index l.bytes.items
