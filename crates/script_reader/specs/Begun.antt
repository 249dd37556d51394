-- Lines that are ahead, in a text of a version.
use Rattle.script_lex.specs.Lines.{Ahead}
use Rattle.script_table.specs.declared.version.Version.{Version}
use Rattle.script_table.specs.Heading.{Beginning}

abbrev pub begun : Version → Ahead → Beginning
begun version ahead = record { version = version; number = ahead.number; lines = ahead.lines }
