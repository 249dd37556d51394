-- What the table of patterns is.
use Rattle.std.proofs.Common.{◌≡◌, ℕ, List, refl, true, Some}
use Rattle.std.specs.List.{list_all}
use Rattle.script_table.specs.Patterns.{Row}
use Rattle.script_table.specs.declared.version.Version.{Version}
use Rattle.script_table.specs.declared.version.Version.TheVariants.{One, Two}
use Rattle.script_table.specs.Table.{patterns, declaration_patterns, step_patterns, call_patterns, strict_declarations, strict_calls}
use Rattle.script_table.specs.LineFaults.{fitting_some}
use Rattle.script_writer.specs.Canon.{quantum_words}
use Rattle.laws_canonical_text.specs.Apart.{all_apart, all_bounded, has_parameters, all_unversioned}
use Rattle.laws_canonical_text.specs.Statements.{quantum_row}
use Rattle.laws_canonical_text.proofs.Forms.{AllHave}
use Rattle.laws_canonical_text.proofs.Declares.{declares_rightly}

-- no line has two patterns; ranges are bounded; the parameters of a server stand where they are read; names are declared by second words; no line begins with `version`; each form has its places; and the quantum has a line
pub record IsTable (rows : List Row) : Type 0 where
  pub apart : all_apart rows ≡ true
  pub bounded : all_bounded rows ≡ true
  pub parameters : list_all has_parameters rows ≡ true
  pub declares : list_all declares_rightly rows ≡ true
  pub unversioned : all_unversioned rows ≡ true
  pub places : AllHave rows
  pub quantum : (q : ℕ) → fitting_some rows (quantum_words q) ≡ Some quantum_row

all_have : AllHave (patterns One)
unfolding patterns declaration_patterns step_patterns call_patterns
all_have = (refl, (refl, (refl, (refl, (refl, (refl, (refl, (refl, (refl, (refl, (refl, (refl, (refl, (refl, (refl, (refl, (refl, (refl, (refl, (refl, (refl, (refl, (refl, (refl, (refl, (refl, (refl, (refl, (refl, (refl, (refl, (refl, (refl, (refl, (refl, (refl, (refl, (refl, (refl, (refl, (refl, (refl, (refl, (refl, (refl, (refl, (refl, (refl, (refl, (refl, (refl, (refl, (refl, (refl, (refl, (refl, (refl, (refl, (refl, (refl, (refl, (refl, (refl, (refl, (refl, (refl, (refl, (refl, (refl, (refl, (refl, (refl, (refl, (refl, (refl, (refl, (refl, (refl, (refl, (refl, (refl, (refl, (refl, (refl, (refl, (refl, (refl, (refl, tt))))))))))))))))))))))))))))))))))))))))))))))))))))))))))))))))))))))))))))))))))))))))

all_have_two : AllHave (patterns Two)
unfolding patterns declaration_patterns step_patterns call_patterns strict_declarations strict_calls
all_have_two = (refl, (refl, (refl, (refl, (refl, (refl, (refl, (refl, (refl, (refl, (refl, (refl, (refl, (refl, (refl, (refl, (refl, (refl, (refl, (refl, (refl, (refl, (refl, (refl, (refl, (refl, (refl, (refl, (refl, (refl, (refl, (refl, (refl, (refl, (refl, (refl, (refl, (refl, (refl, (refl, (refl, (refl, (refl, (refl, (refl, (refl, (refl, (refl, (refl, (refl, (refl, (refl, (refl, (refl, (refl, (refl, (refl, (refl, (refl, (refl, (refl, (refl, (refl, (refl, (refl, (refl, (refl, (refl, (refl, (refl, (refl, (refl, (refl, (refl, (refl, (refl, (refl, (refl, (refl, (refl, (refl, (refl, (refl, (refl, (refl, (refl, (refl, (refl, (refl, (refl, (refl, tt)))))))))))))))))))))))))))))))))))))))))))))))))))))))))))))))))))))))))))))))))))))))))))

-- the table of each version
pub the_table : (version : Version) → IsTable (patterns version)
unfolding patterns declaration_patterns step_patterns call_patterns strict_declarations strict_calls
the_table One = record { apart = refl; bounded = refl; parameters = refl; declares = refl; unversioned = refl; places = all_have; quantum = λ q. refl }
the_table Two = record { apart = refl; bounded = refl; parameters = refl; declares = refl; unversioned = refl; places = all_have_two; quantum = λ q. refl }
