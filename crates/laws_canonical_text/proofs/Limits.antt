-- Canonical lines exceed no number and no limit where the lines exceed none.
use Rattle.std.proofs.Common.{◌≡◌, ℕ, ◌+◌, List, [], ◌∷◌, ◌++◌, refl, sym, ◌∙◌, ap, subst, Option, None, Some}
use Rattle.std.specs.Prelude.{◌==◌}
use Rattle.script_lex.specs.Words.{line_words}
use Rattle.script_table.specs.declared.faults.FaultKind.{FaultKind}
use Rattle.script_table.specs.declared.faults.FaultKind.TheVariants.{TooMany, NoThread}
use Rattle.script_table.specs.Faults.{when, faults_at, fault}
use Rattle.script_table.specs.Patterns.{Row}
use Rattle.script_table.specs.LineFaults.{place_faults}
use Rattle.script_table.specs.Ranges.{range_fault, server_faults, Tally, tallied, is_too_many, range_faults, phase_three}
use Rattle.script_table.specs.Structure.{Said, row_of_line, said_from}
use Rattle.laws_canonical_text.specs.Laws.{IsAnew, AreAnew, IsRanged, AreRanged}
use Rattle.laws_canonical_text.proofs.Places.{both_none, said_none, said_some}
use Rattle.laws_canonical_text.proofs.Table.{IsTable}

pub no_kinds : (n : ℕ) (kinds : List FaultKind) → faults_at 3 n kinds ≡ [] → kinds ≡ []
no_kinds n [] e = refl
no_kinds n (k ∷ ks) e = absurd (let f : (fault 3 n k ∷ faults_at 3 n ks) ≡ [] = e in cc)

-- what a statement without a fault of phase 3 has
pub within : (t : Tally) (s : Said) → range_faults t s ≡ [] → (place_faults range_fault s.row.places s.words ≡ []) × ((server_faults s.row.form s.words ≡ []) × (when (is_too_many t s.row.form) TooMany ≡ []))
within t s e =
    let first = both_none (place_faults range_fault s.row.places s.words) (server_faults s.row.form s.words ++ when (is_too_many t s.row.form) TooMany) e in
    let second = both_none (server_faults s.row.form s.words) (when (is_too_many t s.row.form) TooMany) first.1 in
    (first.0, second)

anew_within : (t : Tally) (old new : Said) → IsAnew old new → range_faults (tallied t old.row.form) old ≡ [] → range_faults (tallied t new.row.form) new ≡ []
anew_within t old new anew e =
    let h = within (tallied t old.row.form) old e in
    let many : when (is_too_many (tallied t new.row.form) new.row.form) TooMany ≡ [] =
    subst (λ (r : Row). when (is_too_many (tallied t r.form) r.form) TooMany ≡ []) (sym anew.pattern) h.1.1 in
    let server : server_faults new.row.form new.words ≡ [] = anew.server ∙ h.1.0 in
    rw (anew.ranged, server, many) refl

pub limits_kept : (ss ts : List Said) (t : Tally) (n m : ℕ) → AreAnew ss ts → phase_three n t ss ≡ [] → phase_three m t ts ≡ []
limits_kept [] [] t n m anew e = ap (λ kinds. faults_at 3 m kinds) (no_kinds n (when (t.counts.threads == 0) NoThread) e)
limits_kept [] (x ∷ ts) t n m anew e = absurd anew
limits_kept (s ∷ ss) [] t n m anew e = absurd anew
limits_kept (s ∷ ss) (x ∷ ts) t n m anew e =
    let split = both_none (faults_at 3 s.line (range_faults (tallied t s.row.form) s)) (phase_three n (tallied t s.row.form) ss) e in
    let own = anew_within t s x anew.0 (no_kinds s.line (range_faults (tallied t s.row.form) s) split.0) in
    let rest = limits_kept ss ts (tallied t s.row.form) n m anew.1 split.1 in
    let here : phase_three m (tallied t x.row.form) ts ≡ [] = subst (λ (r : Row). phase_three m (tallied t r.form) ts ≡ []) (sym anew.0.pattern) rest in
    rw (own, here) refl

module _ (rows : List Row) (table : IsTable rows) where
  ranged_by_row : (row : Option Row) (line : List ℕ) (lines : List (List ℕ)) (t : Tally) (n m : ℕ) → row_of_line rows line ≡ row → phase_three m t (said_from rows n (line ∷ lines)) ≡ []
      → ((u : Tally) → phase_three m u (said_from rows (n + 1) lines) ≡ [] → AreRanged rows lines) → IsRanged row line × AreRanged rows lines
  ranged_by_row None line lines t n m is e rest = (tt, rest t (subst (λ ss. phase_three m t ss ≡ []) (said_none rows table n line lines is) e))
  ranged_by_row (Some row) line lines t n m is e rest =
      let said : Said = record { line = n; row = row; words = line_words line } in
      let h : phase_three m t (said ∷ said_from rows (n + 1) lines) ≡ [] = subst (λ ss. phase_three m t ss ≡ []) (said_some rows table n line lines row is) e in
      let split = both_none (faults_at 3 n (range_faults (tallied t row.form) said)) (phase_three m (tallied t row.form) (said_from rows (n + 1) lines)) h in
      ((within (tallied t row.form) said (no_kinds n (range_faults (tallied t row.form) said) split.0)).0, rest (tallied t row.form) split.1)

  pub are_ranged : (lines : List (List ℕ)) (t : Tally) (n m : ℕ) → phase_three m t (said_from rows n lines) ≡ [] → AreRanged rows lines
  are_ranged [] t n m e = tt
  are_ranged (line ∷ lines) t n m e = ranged_by_row (row_of_line rows line) line lines t n m refl e (λ u h. are_ranged lines u (n + 1) m h)
