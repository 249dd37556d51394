-- The least fault of phase 1, line by line.
use Rattle.std.proofs.Common.{◌≡◌, ◌≤◌, ℕ, ◌+◌, List, [], ◌∷◌, ◌++◌, refl, ap, false, ◌∙◌, arith}
use Rattle.std.specs.Option.{option_map}
use Rattle.std.proofs.lemmas.Bool.Decides.{nat_tests}
use Rattle.script_table.specs.declared.faults.FaultKind.{FaultKind}
use Rattle.script_table.specs.Faults.{Fault, is_before, least, least_kind, faults_at, fault}
use Rattle.script_table.specs.Patterns.{Row}
use Rattle.script_table.specs.Structure.{Open, phase_one, line_faults, behind_line, unclosed, said_from, said_line}
use Rattle.script_reader.proofs.Least.{Each, Each-append, Each-map, or_else, least_cut, least_at}

-- of this phase, and of line n or a later one
abbrev pub From : ℕ → ℕ → Fault → Type 0
From p n f = (f.phase ≡ p) × (n ≤ f.line)

abbrev pub from_at : (p n : ℕ) (ks : List FaultKind) → Each (From p n) (faults_at p n ks)
from_at p n [] = tt
from_at p n (k ∷ ks) = ((refl, omega arith), from_at p n ks)

later : (p n : ℕ) (f : Fault) → From p (n + 1) f → From p n f
later p n f h = (h.0, omega (arith, h.1))

pub phase_one-from : (rows : List Row) (n : ℕ) (blocks : Open) (lines : List (List ℕ)) → Each (From 1 n) (phase_one rows n blocks lines)
unfolding phase_one
phase_one-from rows n blocks [] = from_at 1 n (unclosed blocks)
phase_one-from rows n blocks (line ∷ lines) =
    let rest : Each (From 1 (n + 1)) (phase_one rows (n + 1) (behind_line rows blocks line) lines) = phase_one-from rows (n + 1) (behind_line rows blocks line) lines in
    Each-append (From 1 n) (faults_at 1 n (line_faults rows blocks line)) (phase_one rows (n + 1) (behind_line rows blocks line) lines)
    (from_at 1 n (line_faults rows blocks line))
    (Each-map (From 1 (n + 1)) (From 1 n) (later 1 n) (phase_one rows (n + 1) (behind_line rows blocks line) lines) rest)

not_before : (p n : ℕ) (k : FaultKind) (f : Fault) → From p (n + 1) f → is_before f (fault p n k) ≡ false
not_before p n k f h = let a = h.0 in let b = h.1 in grind (arith, nat_tests)

pub cut_at : (p n : ℕ) (ks : List FaultKind) (ys : List Fault) → Each (From p (n + 1)) ys → Each (λ x. Each (λ y. is_before y x ≡ false) ys) (faults_at p n ks)
cut_at p n [] ys a = tt
cut_at p n (k ∷ ks) ys a = (Each-map (From p (n + 1)) (λ y. is_before y (fault p n k) ≡ false) (not_before p n k) ys a, cut_at p n ks ys a)

-- the least fault from line n on
pub least_from : (rows : List Row) (n : ℕ) (blocks : Open) (line : List ℕ) (lines : List (List ℕ)) →
    least (phase_one rows n blocks (line ∷ lines)) ≡
    or_else (option_map (fault 1 n) (least_kind (line_faults rows blocks line))) (least (phase_one rows (n + 1) (behind_line rows blocks line) lines))
unfolding phase_one
least_from rows n blocks line lines =
    let rest : List Fault = phase_one rows (n + 1) (behind_line rows blocks line) lines in
    least_cut (faults_at 1 n (line_faults rows blocks line)) rest (cut_at 1 n (line_faults rows blocks line) rest (phase_one-from rows (n + 1) (behind_line rows blocks line) lines))
    ∙ ap (λ o. or_else o (least rest)) (least_at 1 n (line_faults rows blocks line))

pub least_end : (rows : List Row) (n : ℕ) (blocks : Open) → least (phase_one rows n blocks []) ≡ option_map (fault 1 n) (least_kind (unclosed blocks))
unfolding phase_one
least_end rows n blocks = least_at 1 n (unclosed blocks)

pub said_end : (rows : List Row) (n : ℕ) → said_from rows n [] ≡ []
unfolding said_from
said_end rows n = refl

pub said_more : (rows : List Row) (n : ℕ) (line : List ℕ) (lines : List (List ℕ)) → said_from rows n (line ∷ lines) ≡ said_line rows n line ++ said_from rows (n + 1) lines
unfolding said_from
said_more rows n line lines = refl
