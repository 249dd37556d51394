-- Blocks, statements, and the faults of phase 1. This project's own.
use Rattle.std.specs.Prelude.{ℕ, ◌+◌, ◌≤◌, not, Bool, true, false, List, [], ◌∷◌, ◌++◌, Option, None, Some, option_to_list}
use Rattle.std.specs.Option.{option_map}
use Rattle.script_lex.specs.Words.{line_words, has_bad_byte}
use Rattle.script_table.specs.declared.faults.FaultKind.{FaultKind}
use Rattle.script_table.specs.declared.faults.FaultKind.TheVariants.{BadByte, NotHere, StrayClose, Unclosed}
use Rattle.script_table.specs.declared.form.Form.{Form}
use Rattle.script_table.specs.declared.form.Form.TheVariants as form
use Rattle.script_table.specs.declared.form.BodyForm.{BodyForm}
use Rattle.script_table.specs.declared.form.BodyForm.TheVariants as body
use Rattle.script_table.specs.declared.form.BlockForm.{BlockForm}
use Rattle.script_table.specs.declared.form.BlockForm.TheVariants as block
use Rattle.script_table.specs.declared.form.CloseForm.{CloseForm}
use Rattle.script_table.specs.declared.form.CloseForm.TheVariants as close
use Rattle.words_script.specs.declared.name_kind.NameKind.{NameKind}
use Rattle.words_script.specs.declared.name_kind.NameKind.TheVariants as kind
use Rattle.script_table.specs.declared.pattern.Closer.{Closer}
use Rattle.script_table.specs.declared.pattern.Closer.TheVariants as closer
use Rattle.script_table.specs.declared.pattern.Bar.{Bar}
use Rattle.script_table.specs.declared.pattern.Opening.{Opening}
use Rattle.script_table.specs.Faults.{Fault, when, faults_at}
use Rattle.script_table.specs.Patterns.{Row, same_closer, is_barred}
use Rattle.script_table.specs.LineFaults.{fitting_some, faults_by}

-- a line with the pattern that it has
pub record Said : Type 0 where
  pub line : ℕ
  pub row : Row
  pub words : List (List ℕ)

-- the pattern of a line; none where it has no words, or no pattern fits
abbrev pub row_of_line : List Row → List ℕ → Option Row
row_of_line rows line = fitting_some rows (line_words line)

abbrev pub said_line : List Row → ℕ → List ℕ → List Said
said_line rows n line = option_to_list (option_map (λ row. record { line = n; row = row; words = line_words line }) (row_of_line rows line))

-- what the lines from n on say
unfoldable pub said_from : List Row → ℕ → List (List ℕ) → List Said
said_from rows n [] = []
said_from rows n (line ∷ lines) = said_line rows n line ++ said_from rows (n + 1) lines

-- what a body is the body of
abbrev pub body_kind : BodyForm → NameKind
body_kind body.Handler = kind.Handler
body_kind body.Cleanup = kind.Cleanup
body_kind thread = kind.Thread

-- the word that closes a block
abbrev pub closer_of : BlockForm → Closer
closer_of block.Push = closer.Pop
closer_of other = closer.End

-- what a closing line closes
abbrev pub closed_by : CloseForm → Closer
closed_by close.End = closer.End
closed_by pop = closer.Pop

abbrev pub is_nil : List Opening → Bool
is_nil [] = true
is_nil (o ∷ openings) = false

abbrev pub tail_of : List Opening → List Opening
tail_of [] = []
tail_of (o ∷ openings) = openings

-- a step stands in a body that it is not barred from
abbrev pub step_faults : Bar → List Opening → List FaultKind
step_faults bar [] = NotHere ∷ []
step_faults bar (o ∷ openings) = when (is_barred bar o.home) NotHere

-- a closing line closes the innermost
abbrev pub close_faults : Closer → List Opening → List FaultKind
close_faults c [] = StrayClose ∷ []
close_faults c (o ∷ openings) = when (not (same_closer o.closer c)) StrayClose

-- what a line of this form may not be, where these are open, the innermost first
abbrev pub not_here : Form → Bar → List Opening → List FaultKind
not_here form.Quantum bar openings = when (not (is_nil openings)) NotHere
not_here (form.Object f) bar openings = when (not (is_nil openings)) NotHere
not_here (form.Action f) bar openings = when (not (is_nil openings)) NotHere
not_here (form.Body f) bar openings = when (not (is_nil openings)) NotHere
not_here (form.Step f) bar openings = step_faults bar openings
not_here (form.Call f) bar openings = step_faults bar openings
not_here (form.Block f) bar openings = step_faults bar openings
not_here (form.Close f) bar openings = close_faults (closed_by f) openings

-- a block inside of what is open
abbrev pub inner : Closer → List Opening → List Opening
inner c [] = []
inner c (o ∷ openings) = record { home = o.home; closer = c } ∷ o ∷ openings

-- what is open after a line
abbrev pub opened : Form → List Opening → List Opening
opened form.Quantum openings = openings
opened (form.Object f) openings = openings
opened (form.Action f) openings = openings
opened (form.Body f) openings = record { home = body_kind f; closer = closer.End } ∷ openings
opened (form.Step f) openings = openings
opened (form.Call f) openings = openings
opened (form.Block f) openings = inner (closer_of f) openings
opened (form.Close f) openings = tail_of openings

-- what is open, or none behind a line with a fault, where pairing is no longer asked
abbrev pub Open : Type 0
Open = Option (List Opening)

abbrev pub place_of_row : Open → Option Row → List FaultKind
place_of_row None row = []
place_of_row (Some openings) None = []
place_of_row (Some openings) (Some row) = not_here row.form row.bar openings

-- the faults of phase 1 of a line
abbrev pub line_faults : List Row → Open → List ℕ → List FaultKind
line_faults rows open' line = when (has_bad_byte line) BadByte ++ (faults_by (fitting_some rows (line_words line)) rows (line_words line) ++ place_of_row open' (row_of_line rows line))

abbrev pub opened_by : Option Row → List Opening → List Opening
opened_by None openings = openings
opened_by (Some row) openings = opened row.form openings

abbrev pub behind : List FaultKind → Option Row → Open → Open
behind [] row open' = option_map (opened_by row) open'
behind (k ∷ ks) row open' = None

abbrev pub behind_line : List Row → Open → List ℕ → Open
behind_line rows open' line = behind (line_faults rows open' line) (row_of_line rows line) open'

abbrev pub unclosed : Open → List FaultKind
unclosed None = []
unclosed (Some []) = []
unclosed (Some (o ∷ openings)) = Unclosed ∷ []

-- the faults of phase 1 from line n on
unfoldable pub phase_one : List Row → ℕ → Open → List (List ℕ) → List Fault
phase_one rows n open' [] = faults_at 1 n (unclosed open')
phase_one rows n open' (line ∷ lines) = faults_at 1 n (line_faults rows open' line) ++ phase_one rows (n + 1) (behind_line rows open' line) lines

-- the lines of the statements rise from n on, and stand before the last
abbrev pub Follows : ℕ → ℕ → List Said → Type 0
Follows last n [] = n ≤ last
Follows last n (s ∷ ss) = (n ≤ s.line) × Follows last (s.line + 1) ss

abbrev pub IsRising : ℕ → List Said → Type 0
IsRising last [] = Unit {0}
IsRising last (s ∷ ss) = Follows last (s.line + 1) ss
