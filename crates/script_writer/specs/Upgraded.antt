-- A script as one of version 2. This project's own.
use Rattle.words_script.specs.declared.decl.Script.{Script}

abbrev pub upgraded : Script → Script
upgraded script = record script { version = 2 }
