-- The statements of a script's canonical text. The text format is this project's own.
use Rattle.std.specs.Prelude.{◌≡◌, ℕ, not, Bool, true, false, List, [], ◌∷◌, Ok, codes, filter}
use Rattle.words_script.specs.declared.decl.Script.{Script}
use Rattle.script_table.specs.declared.form.Form.{Form}
use Rattle.script_table.specs.declared.form.Form.TheVariants as form
use Rattle.script_table.specs.declared.pattern.Bar.TheVariants.{Nowhere}
use Rattle.script_table.specs.Patterns.{Keyword, Number, Row, greatest}
use Rattle.script_table.specs.Structure.{Said}
use Rattle.script_table.specs.Read.{Tables, said, read}
use Rattle.script_writer.specs.Canon.{quantum_words, canon}
use Rattle.laws_canonical_text.specs.Laws.{AreAnew}

-- the pattern of the quantum's line
abbrev pub quantum_row : Row
quantum_row = record { form = form.Quantum; bar = Nowhere; places = Keyword (codes "quantum") ∷ Number 1 greatest ∷ [] }

-- the statement of a quantum, before all lines
abbrev pub quantum_said : ℕ → Said
quantum_said quantum = record { line = 0; row = quantum_row; words = quantum_words quantum }

abbrev pub is_quantum : Form → Bool
is_quantum form.Quantum = true
is_quantum other = false

-- the statements, that of the quantum first
abbrev pub quantum_first : ℕ → List Said → List Said
quantum_first quantum ss = quantum_said quantum ∷ filter (λ s. not (is_quantum s.row.form)) ss

-- the canonical text of a script that a text is read as says the text's statements in their order, but for the quantum's, which it says first
abbrev pub KeepsOrder : Tables → Type 0
KeepsOrder tables = (text : List ℕ) (script : Script) → read tables text ≡ Ok script → AreAnew (quantum_first script.quantum (said tables text)) (said tables (canon script))
