-- What is read back from a canonical text. The text format is this project's own.
use Rattle.std.specs.Prelude.{◌≡◌, ◌≤◌, ℕ, true, false, List, [], ◌∷◌, ◌++◌, Option, None, Some, Result, Ok, Err, map, not}
use Rattle.std.specs.List.{list_all}
use Rattle.script_lex.specs.Lines.{lines_of}
use Rattle.words_script.specs.declared.call.Operand.{Operand}
use Rattle.words_script.specs.declared.call.Operand.TheVariants.{Num, Reg}
use Rattle.script_lex.specs.Words.{has_bad_byte, line_words}
use Rattle.script_lex.specs.Joined.{joined_words, joined_lines, is_word}
use Rattle.script_table.specs.Patterns.{Row, greatest}
use Rattle.script_table.specs.LineFaults.{place_faults, spelling}
use Rattle.script_table.specs.Ranges.{range_fault, server_faults, phase_three, no_tally}
use Rattle.script_table.specs.Structure.{Said, row_of_line, phase_one}
use Rattle.script_table.specs.Names.{declared, phase_two}
use Rattle.script_table.specs.declared.version.Version.{Version}
use Rattle.script_table.specs.declared.version.Version.TheVariants.{One, Two}
use Rattle.script_table.specs.Versions.{version_number, most_of}
use Rattle.script_table.specs.Faults.{Fault}
use Rattle.script_table.specs.Heading.{Beginning, heading}
use Rattle.script_table.specs.Read.{Tables, said_in, said, faults}
use Rattle.script_writer.specs.Canon.{Words, version_lines, text_of}
use Rattle.laws_canonical_text.specs.Canonical.{canonical_words}

-- an operand that a script may have
abbrev pub IsInScript : Operand → Type 0
IsInScript (Num n) = n ≤ greatest
IsInScript Reg = Unit {0}

-- each line has words that can stand in a line
abbrev pub AreWords : List Words → Type 0
AreWords lines = list_all (λ words. list_all is_word words) lines ≡ true

-- the lines of the text have these words, and no bad byte
pub record ReadBack (lines : List Words) : Type 0 where
  pub words : map line_words (lines_of (text_of lines)) ≡ lines
  pub bytes : list_all (λ line. not (has_bad_byte line)) (lines_of (text_of lines)) ≡ true

-- the line of the canonical words, with one blank between them
abbrev pub canonical_line : Row → List ℕ → List ℕ
canonical_line row line = joined_words (canonical_words row.places (line_words line))

-- the canonical line of a line that has a pattern; a line without words is left out
abbrev pub canonical_of : Option Row → List ℕ → List (List ℕ)
canonical_of None line = []
canonical_of (Some row) line = canonical_line row line ∷ []

-- no number of the line is out of the range of its place
abbrev pub IsRanged : Option Row → List ℕ → Type 0
IsRanged None line = Unit {0}
IsRanged (Some row) line = place_faults range_fault row.places (line_words line) ≡ []

-- a statement that was written anew: the same pattern, canonical words, no number out of range, and the same faults of a server
pub record IsAnew (old new : Said) : Type 0 where
  pub pattern : new.row ≡ old.row
  pub words : new.words ≡ canonical_words old.row.places old.words
  pub ranged : place_faults range_fault new.row.places new.words ≡ []
  pub server : server_faults new.row.form new.words ≡ server_faults old.row.form old.words

-- one after another
abbrev pub AreAnew : List Said → List Said → Type 0
AreAnew [] [] = Unit {0}
AreAnew [] (t ∷ ts) = ⊥
AreAnew (s ∷ ss) [] = ⊥
AreAnew (s ∷ ss) (t ∷ ts) = IsAnew s t × AreAnew ss ts

-- the number of the first line that says something by a pattern, in a canonical text
abbrev pub first_line : Version → ℕ
first_line One = 1
first_line Two = 2

module _ (rows : List Row) where
  -- the line has the pattern, no bad byte, and no word that its place does not want or whose number is out of range
  pub record IsSound (row : Row) (line : List ℕ) : Type 0 where
    pub pattern : row_of_line rows line ≡ Some row
    pub bytes : has_bad_byte line ≡ false
    pub spelled : place_faults spelling row.places (line_words line) ≡ []
    pub ranged : place_faults range_fault row.places (line_words line) ≡ []

  -- the canonical line of a sound line has the same pattern and is sound, and its words are the canonical words
  pub record KeepsPattern (row : Row) (line : List ℕ) : Type 0 where
    pub sound : IsSound row (canonical_line row line)
    pub words : line_words (canonical_line row line) ≡ canonical_words row.places (line_words line)

  abbrev pub canonical_lines : List (List ℕ) → List (List ℕ)
  canonical_lines [] = []
  canonical_lines (line ∷ lines) = canonical_of (row_of_line rows line) line ++ canonical_lines lines

  abbrev pub AreRanged : List (List ℕ) → Type 0
  AreRanged [] = Unit {0}
  AreRanged (line ∷ lines) = IsRanged (row_of_line rows line) line × AreRanged lines

  -- lines without a fault of any phase
  pub record HasNoFault (b : Beginning) : Type 0 where
    pub places : phase_one rows b.number (Some []) b.lines ≡ []
    pub names : phase_two (declared (said_in rows b)) (said_in rows b) ≡ []
    pub limits : (n : ℕ) → phase_three n (no_tally (most_of b.version)) (said_in rows b) ≡ []

  -- the canonical lines, behind that of the version
  abbrev pub canonical_part : Beginning → Beginning
  canonical_part b = record { version = b.version; number = first_line b.version; lines = canonical_lines b.lines }

  -- the canonical lines have no fault either, and say the same statements anew, in the same order
  pub record KeepsStatements (b : Beginning) : Type 0 where
    pub clean : HasNoFault (canonical_part b)
    pub anew : AreAnew (said_in rows b) (said_in rows (canonical_part b))

module _ (tables : Tables) where
  abbrev pub canonical_behind : Result Beginning Fault → List ℕ
  canonical_behind (Err f) = []
  canonical_behind (Ok b) = joined_lines (map joined_words (version_lines (version_number b.version)) ++ canonical_lines (tables b.version) b.lines)

  -- the text of the canonical lines
  abbrev pub canonical_text : List ℕ → List ℕ
  canonical_text text = canonical_behind (heading 1 (lines_of text))

  -- the canonical text has no fault, and says the same statements anew, in the same order
  pub record KeepsText (text : List ℕ) : Type 0 where
    pub clean : faults tables (canonical_text text) ≡ []
    pub anew : AreAnew (said tables text) (said tables (canonical_text text))
