use Rattle.std.proofs.Common.{◌≡◌, take}
use Rattle.script_writer.specs.Canon.{decls_lines, text_of}
use Rattle.script_writer.specs.Firsts.{capped_len}
use Rattle.script_writer.proofs.length.decls_len.Given as goal

abbrev pub invariant-loop-decl : goal.invariant-loop-decl
invariant-loop-decl l = l.len ≡ capped_len (text_of (decls_lines l.decls (take l.decl-index l.decls)))
