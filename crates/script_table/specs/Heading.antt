-- Where what a text says begins, and its version. This project's own.
use Rattle.std.specs.Prelude.{ℕ, map, ◌+◌, Bool, false, if◌then◌else◌, List, [], ◌∷◌, Result, Ok, Err, codes}
use Rattle.std.specs.Str.{bytes_eq}
use Rattle.script_lex.specs.Words.{before_comment, has_bad_byte, is_allowed, words_of}
use Rattle.script_table.specs.declared.faults.FaultKind.TheVariants.{BadByte, BadVersion}
use Rattle.script_table.specs.declared.version.Version.{Version}
use Rattle.script_table.specs.declared.version.Version.TheVariants.{One, Two}
use Rattle.script_table.specs.Faults.{Fault, fault}

-- the version, and the lines that say something by its patterns, with the number of the first
pub record Beginning : Type 0 where
  pub version : Version
  pub number : ℕ
  pub lines : List (List ℕ)

abbrev pub begins : Version → ℕ → List (List ℕ) → Result Beginning Fault
begins version n lines = Ok (record { version = version; number = n; lines = lines })

-- a blank in place of a byte that no line may have: words are made of printed bytes
abbrev pub printed : ℕ → ℕ
printed c = if is_allowed c then c else 32

-- the words of a line, whatever bytes it has
abbrev pub printed_words : List ℕ → List (List ℕ)
printed_words line = words_of (map printed (before_comment line))

-- the word with which the line of a version begins
abbrev pub is_version : List ℕ → Bool
is_version word = bytes_eq word (codes "version")

-- the words behind it are the one word `2`
abbrev pub is_two : List (List ℕ) → Bool
is_two [] = false
is_two (word ∷ []) = bytes_eq word (codes "2")
is_two (word ∷ other ∷ words) = false

-- a bad byte comes before all that follows
abbrev pub unless_bad : ℕ → List ℕ → Result Beginning Fault → Result Beginning Fault
unless_bad n line rest = if has_bad_byte line then Err (fault 1 n BadByte) else rest

-- line n begins with `version`, and these words follow
abbrev pub by_version : ℕ → List ℕ → List (List ℕ) → List (List ℕ) → Result Beginning Fault
by_version n line words lines = if is_two words then unless_bad n line (begins Two (n + 1) lines) else Err (fault 1 n BadVersion)

-- line n has these words; a line without words says nothing
abbrev pub by_words : ℕ → List ℕ → List (List ℕ) → List (List ℕ) → Result Beginning Fault → Result Beginning Fault
by_words n line [] lines rest = unless_bad n line rest
by_words n line (word ∷ words) lines rest = if is_version word then by_version n line words lines else begins One n (line ∷ lines)

-- the first line with words names the version, or is the first that says something; or a fault comes before all others
unfoldable pub heading : ℕ → List (List ℕ) → Result Beginning Fault
heading n [] = begins One n []
heading n (line ∷ lines) = by_words n line (printed_words line) lines (heading (n + 1) lines)
