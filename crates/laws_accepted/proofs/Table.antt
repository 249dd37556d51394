-- Every row of the table that opens a guarded block is barred from handlers and cleanup handlers.
use Rattle.std.proofs.Common.{Bool, List, None, Some, [], arith, false, refl, subst, true, ℕ, ◌≡◌, ◌∷◌}
use Rattle.std.specs.List.{find, list_all}
use Rattle.std.specs.Prelude.{cond, ◌&&◌}
use Rattle.script_table.specs.declared.form.Form.{Form}
use Rattle.script_table.specs.declared.form.Form.TheVariants as form
use Rattle.script_table.specs.declared.form.BlockForm.TheVariants as block
use Rattle.script_table.specs.declared.pattern.Bar.{Bar}
use Rattle.script_table.specs.declared.pattern.Bar.TheVariants as bar
use Rattle.script_table.specs.Patterns.{Row}
use Rattle.script_table.specs.LineFaults.{fits, fitting_some}
use Rattle.script_table.specs.declared.version.Version.{Version}
use Rattle.script_table.specs.declared.version.Version.TheVariants.{One, Two}
use Rattle.script_table.specs.Table.{call_patterns, declaration_patterns, patterns, step_patterns, strict_calls, strict_declarations}

abbrev pub is_barred_so : Form → Bar → Bool
is_barred_so (form.Block block.Push) bar.HandlersAndCleanups = true
is_barred_so (form.Block block.Push) other = false
is_barred_so other b = true

abbrev is_barred_row : Row → Bool
is_barred_row row = is_barred_so row.form row.bar

all_barred : (v : Version) → list_all is_barred_row (patterns v) ≡ true
unfolding patterns declaration_patterns step_patterns call_patterns strict_declarations strict_calls
all_barred One = refl
all_barred Two = refl

-- what all members pass, the one that is found passes
found_case : (b : Bool) (test : Row → Bool) (r : Row) (rows : List Row) (row : Row) → test r ≡ b → find test (r ∷ rows) ≡ Some row → (is_barred_row r && list_all is_barred_row rows) ≡ true →
    (find test rows ≡ Some row → list_all is_barred_row rows ≡ true → is_barred_row row ≡ true) → is_barred_row row ≡ true
found_case true test r rows row is found all rest =
    let h : Some r ≡ Some row = subst (λ b. cond b (Some r) (find test rows) ≡ Some row) is found in
    let same : r ≡ row = cc in
    let first : is_barred_row r ≡ true = grind arith in
    subst (λ x. is_barred_row x ≡ true) same first
found_case false test r rows row is found all rest =
    rest (subst (λ b. cond b (Some r) (find test rows) ≡ Some row) is found) (grind arith)

found_barred : (test : Row → Bool) (rows : List Row) (row : Row) → find test rows ≡ Some row → list_all is_barred_row rows ≡ true → is_barred_row row ≡ true
found_barred test [] row found all = absurd (let none : None ≡ Some row = found in cc)
found_barred test (r ∷ rows) row found all = found_case (test r) test r rows row refl found all (found_barred test rows row)

pub fitting_barred : (v : Version) (words : List (List ℕ)) (row : Row) → fitting_some (patterns v) words ≡ Some row → is_barred_so row.form row.bar ≡ true
fitting_barred v [] row found = absurd (let none : None ≡ Some row = found in cc)
fitting_barred v (word ∷ words) row found = found_barred (λ r. fits r.places (word ∷ words)) (patterns v) row found (all_barred v)
