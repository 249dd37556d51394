-- Tables of patterns, and what they read back. The script language is this project's own.
use Rattle.std.specs.Prelude.{◌≡◌, ℕ, List, Ok}
use Rattle.words_script.specs.declared.decl.Script.{Script}
use Rattle.script_table.specs.Read.{Tables, read}
use Rattle.script_writer.specs.Canon.{canon}
use Rattle.script_writer.specs.Upgraded.{upgraded}

-- each script that a text is read as is read again from its canonical text
abbrev pub ReadsBack : Tables → Type 0
ReadsBack tables = (text : List ℕ) (script : Script) → read tables text ≡ Ok script → read tables (canon script) ≡ Ok script

-- and, as a script of version 2, from its canonical text of that version
abbrev pub ReadsUpgraded : Tables → Type 0
ReadsUpgraded tables = (text : List ℕ) (script : Script) → read tables text ≡ Ok script → read tables (canon (upgraded script)) ≡ Ok (upgraded script)
