use Rattle.std.proofs.Common.{take, Ok}
use Rattle.script_writer.specs.Canon.{decls_lines, text_of}
use Rattle.script_writer.specs.Writes.{Writes}
use Rattle.script_writer.proofs.write.write_decls.Given as goal

abbrev pub invariant-loop-decl : goal.invariant-loop-decl
invariant-loop-decl g l =
    Writes g.K.Sink.text g.K.Sink.faults l.initial.sink l.sink (Ok tt) (text_of (decls_lines l.decls (take l.decl-index l.decls)))
