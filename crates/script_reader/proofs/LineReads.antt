-- One line of phase 1.
use Rattle.std.proofs.Common.{◌≡◌, ℕ, ◌+◌, List, [], ◌∷◌, ◌++◌, ap, true, false, Option, None, Some, sym, ◌∙◌, arith, subst, append_assoc, append-nil, length}
use Rattle.std.specs.Prelude.{option_to_list}
use Rattle.std.specs.Option.{option_map}
use Rattle.script_lex.specs.Words.{has_bad_byte, line_words}
use Rattle.script_table.specs.declared.faults.FaultKind.{FaultKind}
use Rattle.script_table.specs.declared.faults.FaultKind.TheVariants.{BadByte, Unclosed}
use Rattle.script_table.specs.declared.pattern.Opening.{Opening}
use Rattle.script_reader.specs.declared.end.ScriptEnd.{ScriptEnd}
use Rattle.script_reader.specs.declared.end.ScriptEnd.TheVariants as end
use Rattle.script_table.specs.Faults.{Fault, least, least_kind, lesser_first, fault, when}
use Rattle.script_table.specs.Patterns.{Row}
use Rattle.script_table.specs.LineFaults.{faults_by, fitting_some}
use Rattle.script_table.specs.Structure.{Open, Said, phase_one, line_faults, behind_line, behind, opened, opened_by, row_of_line, said_line, said_from, place_of_row, is_nil}
use Rattle.script_reader.specs.Ends.{EndsBy, answered}
use Rattle.script_reader.proofs.Least.{or_else}
use Rattle.script_table.proofs.KindOrder.{least_kind-append}
use Rattle.script_reader.proofs.KindOrder.{no_kind}
use Rattle.script_reader.proofs.PhaseOne.{least_from, least_end, said_end, said_more}

pub clean_line : (rows : List Row) (blocks : Open) (line : List ℕ) (o : Option Row) (a b r : Option FaultKind) →
    has_bad_byte line ≡ false → o ≡ fitting_some rows (line_words line) →
    a ≡ least_kind (faults_by o rows (line_words line)) → b ≡ least_kind (place_of_row blocks o) → r ≡ lesser_first a b →
    r ≡ least_kind (line_faults rows blocks line)
clean_line rows blocks line o a b r good is_o is_a is_b is_r =
    let joined = least_kind-append (faults_by o rows (line_words line)) (place_of_row blocks o) in
    let here : r ≡ least_kind (faults_by o rows (line_words line) ++ place_of_row blocks o) = cc in
    let at_row : r ≡ least_kind (faults_by (fitting_some rows (line_words line)) rows (line_words line) ++ place_of_row blocks (fitting_some rows (line_words line))) =
    subst (λ (f : Option Row). r ≡ least_kind (faults_by f rows (line_words line) ++ place_of_row blocks f)) is_o here in
    at_row ∙ ap (λ b. least_kind (when b BadByte ++ (faults_by (fitting_some rows (line_words line)) rows (line_words line) ++ place_of_row blocks (fitting_some rows (line_words line))))) (sym good)

pub line_says : (rows : List Row) (n : ℕ) (line : List ℕ) (blocks after : List Opening) (row : Row) (s : Said) (o : Option FaultKind) →
    row_of_line rows line ≡ Some row → o ≡ None → o ≡ least_kind (line_faults rows (Some blocks) line) →
    s ≡ record { line = n; row = row; words = line_words line } → after ≡ opened row.form blocks →
    (line_faults rows (Some blocks) line ≡ []) × (s ∷ [] ≡ said_line rows n line) × (Some after ≡ behind_line rows (Some blocks) line)
line_says rows n line blocks after row s o is_row none is_o is_s is_after =
    let clean : line_faults rows (Some blocks) line ≡ [] = no_kind (line_faults rows (Some blocks) line) (sym is_o ∙ none) in (
      clean,
      ap (λ (x : Said). x ∷ []) is_s ∙ ap (λ (r : Option Row). option_to_list (option_map (λ (row : Row). record { line = n; row = row; words = line_words line }) r)) (sym is_row),
      ap Some is_after ∙ (ap (λ (r : Option Row). option_map (opened_by r) (Some blocks)) (sym is_row) ∙ ap (λ ks. behind ks (row_of_line rows line) (Some blocks)) (sym clean)),
    )

-- past a line with no fault
pub goes_on : (rows : List Row) (n m : ℕ) (blocks after : List Opening) (lines rest : List (List ℕ)) (line : List ℕ) (all : Option Fault) →
    lines ≡ line ∷ rest → m ≡ n + 1 → line_faults rows (Some blocks) line ≡ [] → Some after ≡ behind_line rows (Some blocks) line →
    least (phase_one rows n (Some blocks) lines) ≡ all → least (phase_one rows m (Some after) rest) ≡ all
goes_on rows n m blocks after lines rest line all is is_m clean is_after so_far =
    let whole : least (phase_one rows n (Some blocks) (line ∷ rest)) ≡ all = subst (λ ls. least (phase_one rows n (Some blocks) ls) ≡ all) is so_far in
    let here : or_else None (least (phase_one rows (n + 1) (behind_line rows (Some blocks) line) rest)) ≡ all =
    ap (λ ks. or_else (option_map (fault 1 n) (least_kind ks)) (least (phase_one rows (n + 1) (behind_line rows (Some blocks) line) rest))) (sym clean) ∙ (sym (least_from rows n (Some blocks) line rest) ∙ whole) in
    ap (λ k. least (phase_one rows k (Some after) rest)) is_m ∙ (ap (λ (o : Open). least (phase_one rows (n + 1) o rest)) is_after ∙ here)

first_ends : (e : ScriptEnd) (k r : Option Fault) → EndsBy e k → EndsBy e (or_else k r)
first_ends end.OutOfMemory k r h = tt
first_ends (end.Fault line kind) None r h = absurd (let e : None ≡ Some (end.Fault line kind) = h in cc)
first_ends (end.Fault line kind) (Some f) r h = h

pub line_ends : (rows : List Row) (n at : ℕ) (blocks : List Opening) (lines rest : List (List ℕ)) (line : List ℕ) (all : Option Fault) (e : ScriptEnd) →
    lines ≡ line ∷ rest → at ≡ n → EndsBy e (option_map (fault 1 at) (least_kind (line_faults rows (Some blocks) line))) →
    least (phase_one rows n (Some blocks) lines) ≡ all → EndsBy e all
line_ends rows n at blocks lines rest line all e is is_at ends so_far =
    let whole : least (phase_one rows n (Some blocks) (line ∷ rest)) ≡ all = subst (λ ls. least (phase_one rows n (Some blocks) ls) ≡ all) is so_far in
    subst (EndsBy e) (sym (least_from rows n (Some blocks) line rest) ∙ whole) (first_ends e _ _ (subst (λ k. EndsBy e (option_map (fault 1 k) (least_kind (line_faults rows (Some blocks) line)))) is_at ends))

pub says_on : (rows : List Row) (n at m : ℕ) (lines rest : List (List ℕ)) (line : List ℕ) (xs ys all : List Said) →
    lines ≡ line ∷ rest → at ≡ n → m ≡ n + 1 → ys ≡ said_line rows at line → xs ++ said_from rows n lines ≡ all → (xs ++ ys) ++ said_from rows m rest ≡ all
says_on rows n at m lines rest line xs ys all is is_at is_m is_ys so_far =
    append_assoc xs ys (said_from rows m rest) ∙ (ap (λ k. xs ++ (ys ++ said_from rows k rest)) is_m ∙ (ap (λ zs. xs ++ (zs ++ said_from rows (n + 1) rest)) (is_ys ∙ ap (λ k. said_line rows k line) is_at) ∙ (ap (λ zs. xs ++ zs) (sym (said_more rows n line rest)) ∙ (ap (λ ls. xs ++ said_from rows n ls) (sym is) ∙ so_far))))

pub says_all : (rows : List Row) (n : ℕ) (lines : List (List ℕ)) (xs all : List Said) → lines ≡ [] → xs ++ said_from rows n lines ≡ all → xs ≡ all
says_all rows n lines xs all is so_far = sym (append-nil xs) ∙ (ap (λ zs. xs ++ zs) (sym (said_end rows n)) ∙ (ap (λ ls. xs ++ said_from rows n ls) (sym is) ∙ so_far))

pub ends_closed : (rows : List Row) (n : ℕ) (blocks : List Opening) (lines : List (List ℕ)) (all : Option Fault) →
    lines ≡ [] → is_nil blocks ≡ true → least (phase_one rows n (Some blocks) lines) ≡ all → all ≡ None
ends_closed rows n [] lines all is nil so_far = sym so_far ∙ (ap (λ ls. least (phase_one rows n (Some []) ls)) is ∙ least_end rows n (Some []))
ends_closed rows n (o ∷ blocks) lines all is nil so_far = cc

pub ends_open : (rows : List Row) (n : ℕ) (blocks : List Opening) (lines : List (List ℕ)) (all : Option Fault) →
    lines ≡ [] → is_nil blocks ≡ false → least (phase_one rows n (Some blocks) lines) ≡ all → option_map answered all ≡ Some (end.Fault n Unclosed)
ends_open rows n [] lines all is nil so_far = cc
ends_open rows n (o ∷ blocks) lines all is nil so_far = ap (option_map answered) (sym so_far ∙ (ap (λ ls. least (phase_one rows n (Some (o ∷ blocks)) ls)) is ∙ least_end rows n (Some (o ∷ blocks))))

pub counted : (n m all : ℕ) (lines rest : List (List ℕ)) (line : List ℕ) → lines ≡ line ∷ rest → m ≡ n + 1 → n + length lines ≡ all → m + length rest ≡ all
counted n m all lines rest line is is_m e = let k = ap (λ (ls : List (List ℕ)). length ls) is in omega arith

pub counted_all : (n all : ℕ) (lines : List (List ℕ)) → lines ≡ [] → n + length lines ≡ all → n ≡ all
counted_all n all lines is e = let k = ap (λ (ls : List (List ℕ)). length ls) is in omega arith
