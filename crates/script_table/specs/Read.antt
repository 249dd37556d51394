-- The script of a text, or its least fault. This project's own.
use Rattle.std.specs.Prelude.{ℕ, ◌+◌, List, [], ◌∷◌, ◌++◌, length, Option, None, Some, Result, Ok, Err}
use Rattle.script_lex.specs.Lines.{lines_of}
use Rattle.words_script.specs.declared.decl.Script.{Script}
use Rattle.script_table.specs.declared.version.Version.{Version}
use Rattle.script_table.specs.Versions.{most_of}
use Rattle.script_table.specs.Faults.{Fault, least}
use Rattle.script_table.specs.Patterns.{Row}
use Rattle.script_table.specs.Structure.{Said, said_from, phase_one}
use Rattle.script_table.specs.Names.{declared, phase_two}
use Rattle.script_table.specs.Ranges.{phase_three, no_tally}
use Rattle.script_table.specs.Heading.{Beginning, heading}
use Rattle.script_table.specs.Build.{script_of}

-- what lines say
abbrev pub said_in : List Row → Beginning → List Said
said_in rows b = said_from rows b.number b.lines

-- all faults of lines
abbrev pub faults_in : List Row → Beginning → List Fault
faults_in rows b =
    phase_one rows b.number (Some []) b.lines ++
    (phase_two (declared (said_in rows b)) (said_in rows b) ++
    phase_three (b.number + length b.lines) (no_tally (most_of b.version)) (said_in rows b))

abbrev pub verdict : Option Fault → Script → Result Script Fault
verdict None script = Ok script
verdict (Some f) script = Err f

-- the script of lines that have no fault, or else the least fault
unfoldable pub read_in : List Row → Beginning → Result Script Fault
read_in rows b = verdict (least (faults_in rows b)) (script_of b.version (declared (said_in rows b)).names (said_in rows b))

-- each version has its patterns
abbrev pub Tables : Type 0
Tables = Version → List Row

abbrev pub said_behind : Tables → Result Beginning Fault → List Said
said_behind tables (Err f) = []
said_behind tables (Ok b) = said_in (tables b.version) b

-- what the lines of a text say
abbrev pub said : Tables → List ℕ → List Said
said tables text = said_behind tables (heading 1 (lines_of text))

abbrev pub faults_behind : Tables → Result Beginning Fault → List Fault
faults_behind tables (Err f) = f ∷ []
faults_behind tables (Ok b) = faults_in (tables b.version) b

-- the faults of a text: where its heading has one, that comes before all others
abbrev pub faults : Tables → List ℕ → List Fault
faults tables text = faults_behind tables (heading 1 (lines_of text))

abbrev pub read_behind : Tables → Result Beginning Fault → Result Script Fault
read_behind tables (Err f) = Err f
read_behind tables (Ok b) = read_in (tables b.version) b

-- the script of a text that has no fault, or else the least fault
unfoldable pub read : Tables → List ℕ → Result Script Fault
read tables text = read_behind tables (heading 1 (lines_of text))
