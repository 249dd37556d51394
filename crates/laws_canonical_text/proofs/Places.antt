-- Canonical lines have no fault of phase 1 where the lines have none.
use Rattle.std.proofs.Common.{◌≡◌, ℕ, ◌+◌, List, [], ◌∷◌, ◌++◌, refl, sym, ◌∙◌, ap, subst, Bool, true, false, Option, None, Some}
use Rattle.script_lex.specs.Words.{has_bad_byte, line_words}
use Rattle.script_table.specs.declared.faults.FaultKind.{FaultKind}
use Rattle.script_table.specs.declared.faults.FaultKind.TheVariants.{BadByte}
use Rattle.script_table.specs.declared.pattern.Opening.{Opening}
use Rattle.script_table.specs.Faults.{when, faults_at, fault}
use Rattle.script_table.specs.Patterns.{Row}
use Rattle.script_table.specs.LineFaults.{faults_by}
use Rattle.script_table.specs.Structure.{said_line, said_from, row_of_line, Open, place_of_row, line_faults, opened_by, behind_line, unclosed, phase_one}
use Rattle.laws_canonical_text.specs.Laws.{IsSound, canonical_line, canonical_of, canonical_lines, IsRanged, AreRanged, IsAnew, AreAnew}
use Rattle.std.specs.List.{list_all}
use Rattle.script_table.specs.LineFaults.{fits}
use Rattle.script_table.specs.Ranges.{server_faults}
use Rattle.laws_canonical_text.specs.Apart.{is_bounded, has_parameters}
use Rattle.laws_canonical_text.proofs.Apart.{found_passes}
use Rattle.laws_canonical_text.proofs.Kept.{server_kept}
use Rattle.laws_canonical_text.proofs.LineLaws.{keeps_pattern, some_found}
use Rattle.laws_canonical_text.proofs.Table.{IsTable}

pub no_kinds : (n : ℕ) (kinds : List FaultKind) → faults_at 1 n kinds ≡ [] → kinds ≡ []
no_kinds n [] e = refl
no_kinds n (k ∷ ks) e = absurd (let f : (fault 1 n k ∷ faults_at 1 n ks) ≡ [] = e in cc)

pub both_none : {X : Type 0} (xs ys : List X) → xs ++ ys ≡ [] → (xs ≡ []) × (ys ≡ [])
both_none [] ys e = (refl, e)
both_none (x ∷ xs) ys e = absurd (let f : (x ∷ (xs ++ ys)) ≡ [] = e in cc)

not_when : (b : Bool) → when b BadByte ≡ [] → b ≡ false
not_when true e = absurd (let f : (BadByte ∷ []) ≡ [] = e in cc)
not_when false e = refl

module _ (rows : List Row) (table : IsTable rows) where
  pub no_lines : (n : ℕ) (open' : Open) → phase_one rows n open' [] ≡ faults_at 1 n (unclosed open')
  unfolding phase_one
  no_lines n open' = refl

  pub one_line : (n : ℕ) (open' : Open) (line : List ℕ) (lines : List (List ℕ))
      → phase_one rows n open' (line ∷ lines) ≡ faults_at 1 n (line_faults rows open' line) ++ phase_one rows (n + 1) (behind_line rows open' line) lines
  unfolding phase_one
  one_line n open' line lines = refl

  -- what a line without a fault of phase 1 has
  pub record InPlace (row : Option Row) (openings : List Opening) (line : List ℕ) : Type 0 where
    pub bytes : has_bad_byte line ≡ false
    pub own : faults_by row rows (line_words line) ≡ []
    pub place : place_of_row (Some openings) row ≡ []

  pub in_place : (openings : List Opening) (line : List ℕ) → line_faults rows (Some openings) line ≡ [] → InPlace (row_of_line rows line) openings line
  in_place openings line e =
      let row = row_of_line rows line in
      let first = both_none (when (has_bad_byte line) BadByte) (faults_by row rows (line_words line) ++ place_of_row (Some openings) row) e in
      let second = both_none (faults_by row rows (line_words line)) (place_of_row (Some openings) row) first.1 in
      record { bytes = not_when (has_bad_byte line) first.0; own = second.0; place = second.1 }

  pub faults_none : (openings : List Opening) (line : List ℕ) (row : Option Row) → row_of_line rows line ≡ row → InPlace row openings line → line_faults rows (Some openings) line ≡ []
  faults_none openings line row is h =
      let place : InPlace (row_of_line rows line) openings line = subst (λ r. InPlace r openings line) (sym is) h in
      rw (place.bytes, place.own, place.place) refl

  pub behind_clean : (openings : List Opening) (line : List ℕ) (row : Option Row) → row_of_line rows line ≡ row → line_faults rows (Some openings) line ≡ []
      → behind_line rows (Some openings) line ≡ Some (opened_by row openings)
  behind_clean openings line row is none = rw (none, is) refl

  -- the canonical line of a line stands where the line stands
  by_row : (row : Option Row) (openings : List Opening) (line : List ℕ) (lines : List (List ℕ))
      → row_of_line rows line ≡ row → line_faults rows (Some openings) line ≡ [] → IsRanged row line
      → ((m : ℕ) → phase_one rows m (Some (opened_by row openings)) (canonical_lines rows lines) ≡ [])
      → (m : ℕ) → phase_one rows m (Some openings) (canonical_of row line ++ canonical_lines rows lines) ≡ []
  by_row None openings line lines is none ranged rest m = rest m
  by_row (Some row) openings line lines is none ranged rest m =
      let place : InPlace (Some row) openings line = subst (λ r. InPlace r openings line) is (in_place openings line none) in
      let kept = keeps_pattern rows table row line (record { pattern = is; bytes = place.bytes; spelled = place.own; ranged = ranged }) in
      let anew : List ℕ = canonical_line row line in
      let clean = faults_none openings anew (Some row) kept.sound.pattern (record { bytes = kept.sound.bytes; own = kept.sound.spelled; place = place.place }) in
      let after = behind_clean openings anew (Some row) kept.sound.pattern clean in
      one_line m (Some openings) anew (canonical_lines rows lines)
      ∙ ap (λ kinds. faults_at 1 m kinds ++ phase_one rows (m + 1) (behind_line rows (Some openings) anew) (canonical_lines rows lines)) clean
      ∙ ap (λ o. phase_one rows (m + 1) o (canonical_lines rows lines)) after
      ∙ rest (m + 1)

  pub places_kept : (lines : List (List ℕ)) (openings : List Opening) (n : ℕ) → phase_one rows n (Some openings) lines ≡ [] → AreRanged rows lines
      → (m : ℕ) → phase_one rows m (Some openings) (canonical_lines rows lines) ≡ []
  places_kept [] openings n e ranged m =
      let closed = no_kinds n (unclosed (Some openings)) (sym (no_lines n (Some openings)) ∙ e) in
      no_lines m (Some openings) ∙ ap (λ kinds. faults_at 1 m kinds) closed
  places_kept (line ∷ lines) openings n e ranged m =
      let split = both_none (faults_at 1 n (line_faults rows (Some openings) line)) (phase_one rows (n + 1) (behind_line rows (Some openings) line) lines) (sym (one_line n (Some openings) line lines) ∙ e) in
      let none = no_kinds n (line_faults rows (Some openings) line) split.0 in
      let after = behind_clean openings line (row_of_line rows line) refl none in
      let rest = subst (λ o. phase_one rows (n + 1) o lines ≡ []) after split.1 in
      by_row (row_of_line rows line) openings line lines refl none ranged.0 (places_kept lines (opened_by (row_of_line rows line) openings) (n + 1) rest ranged.1) m

  pub nothing_said : (n : ℕ) → said_from rows n [] ≡ []
  unfolding said_from
  nothing_said n = refl

  one_said : (n : ℕ) (line : List ℕ) (lines : List (List ℕ)) → said_from rows n (line ∷ lines) ≡ said_line rows n line ++ said_from rows (n + 1) lines
  unfolding said_from
  one_said n line lines = refl

  pub said_none : (n : ℕ) (line : List ℕ) (lines : List (List ℕ)) → row_of_line rows line ≡ None → said_from rows n (line ∷ lines) ≡ said_from rows (n + 1) lines
  said_none n line lines is = one_said n line lines ∙ rw is refl

  pub said_some : (n : ℕ) (line : List ℕ) (lines : List (List ℕ)) (row : Row) → row_of_line rows line ≡ Some row
      → said_from rows n (line ∷ lines) ≡ record { line = n; row = row; words = line_words line } ∷ said_from rows (n + 1) lines
  said_some n line lines row is = one_said n line lines ∙ rw is refl

  -- the statement of a line and that of its canonical line
  pub anew_one : (n m : ℕ) (row : Row) (line : List ℕ) → IsSound rows row line → IsAnew (record { line = n; row = row; words = line_words line }) (record { line = m; row = row; words = line_words (canonical_line row line) })
  anew_one n m row line sound =
      let kept = keeps_pattern rows table row line sound in
      let found = some_found rows (line_words line) row sound.pattern in
      let test : Row → Bool = λ r. fits r.places (line_words line) in
      let bounded : list_all is_bounded row.places ≡ true = found_passes test (λ r. list_all is_bounded r.places) rows row found table.bounded in
      let has : has_parameters row ≡ true = found_passes test has_parameters rows row found table.parameters in
      record {
        pattern = refl;
        words = kept.words;
        ranged = kept.sound.ranged;
        server = ap (server_faults row.form) kept.words ∙ server_kept row (line_words line) has bounded (record { spelled = sound.spelled; ranged = sound.ranged });
      }

  anew_by_row : (row : Option Row) (openings : List Opening) (line : List ℕ) (lines : List (List ℕ)) (n : ℕ)
      → row_of_line rows line ≡ row → line_faults rows (Some openings) line ≡ [] → IsRanged row line
      → ((m : ℕ) → AreAnew (said_from rows (n + 1) lines) (said_from rows m (canonical_lines rows lines)))
      → (m : ℕ) → AreAnew (said_from rows n (line ∷ lines)) (said_from rows m (canonical_of row line ++ canonical_lines rows lines))
  anew_by_row None openings line lines n is none ranged rest m =
      subst (λ ss. AreAnew ss (said_from rows m (canonical_lines rows lines))) (sym (said_none n line lines is)) (rest m)
  anew_by_row (Some row) openings line lines n is none ranged rest m =
      let place : InPlace (Some row) openings line = subst (λ r. InPlace r openings line) is (in_place openings line none) in
      let sound : IsSound rows row line = record { pattern = is; bytes = place.bytes; spelled = place.own; ranged = ranged } in
      let kept = keeps_pattern rows table row line sound in
      rw (said_some n line lines row is, said_some m (canonical_line row line) (canonical_lines rows lines) row kept.sound.pattern)
      (anew_one n m row line sound, rest (m + 1))

  pub anew_kept : (lines : List (List ℕ)) (openings : List Opening) (n : ℕ) → phase_one rows n (Some openings) lines ≡ [] → AreRanged rows lines
      → (m : ℕ) → AreAnew (said_from rows n lines) (said_from rows m (canonical_lines rows lines))
  anew_kept [] openings n e ranged m = rw (nothing_said n, nothing_said m) tt
  anew_kept (line ∷ lines) openings n e ranged m =
      let split = both_none (faults_at 1 n (line_faults rows (Some openings) line)) (phase_one rows (n + 1) (behind_line rows (Some openings) line) lines) (sym (one_line n (Some openings) line lines) ∙ e) in
      let none = no_kinds n (line_faults rows (Some openings) line) split.0 in
      let after = behind_clean openings line (row_of_line rows line) refl none in
      let rest = subst (λ o. phase_one rows (n + 1) o lines ≡ []) after split.1 in
      anew_by_row (row_of_line rows line) openings line lines n refl none ranged.0 (anew_kept lines (opened_by (row_of_line rows line) openings) (n + 1) rest ranged.1) m
