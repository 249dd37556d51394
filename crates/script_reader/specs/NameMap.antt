-- The entries of a map of names.
use Rattle.std.specs.Prelude.{ℕ, List}
use Rattle.std.specs.Borrow.{Bor}
use Rattle.script_table.specs.Names.{Entry}
use Rattle.script_reader.specs.declared.names.Declaration.{Declaration}

abbrev pub entry_named : List ℕ → Declaration → Entry
entry_named name d = record { name = name; kind = d.kind; line = d.line; number = d.number }

abbrev pub entry_of_pair : (Bor (List ℕ) × Declaration) → Entry
entry_of_pair p = entry_named p.0.now p.1
