-- The canonical text of a text without faults has none.
use Rattle.std.proofs.Common.{◌≡◌, ℕ, ◌+◌, List, [], ◌∷◌, ◌++◌, length, refl, sym, ◌∙◌, ap, subst, Bool, true, false, not, rules, Some}
use Rattle.std.specs.Prelude.{◌==◌, Result, Ok, Err}
use Rattle.std.specs.List.{list_all}
use Rattle.script_lex.specs.Lines.{lines_of}
use Rattle.script_lex.specs.Words.{onto_first, is_allowed}
use Rattle.script_lex.specs.Joined.{joined_lines}
use Rattle.script_lex.proofs.Split.{no_lines}
use Rattle.script_lex.proofs.Rejoined.{both}
use Rattle.script_table.specs.declared.pattern.Opening.{Opening}
use Rattle.script_table.specs.declared.faults.FaultKind.TheVariants.{NoThread}
use Rattle.script_table.specs.Faults.{faults_at, when}
use Rattle.script_table.specs.Names.{declared, phase_two}
use Rattle.script_table.specs.Ranges.{Tally, tallied, range_faults, phase_three, no_tally}
use Rattle.script_table.specs.Structure.{Said, row_of_line, line_faults, behind_line, opened_by, phase_one}
use Rattle.script_table.specs.declared.version.Version.{Version}
use Rattle.script_table.specs.Versions.{most_of}
use Rattle.script_table.specs.Faults.{Fault}
use Rattle.script_table.specs.Heading.{Beginning, heading}
use Rattle.script_table.specs.Read.{Tables, said_in, faults_in, said_behind, said, faults_behind, faults}
use Rattle.laws_canonical_text.specs.Laws.{HasNoFault, KeepsStatements, KeepsText, canonical_lines, canonical_part, canonical_behind, first_line, AreRanged, AreAnew}
use Rattle.laws_canonical_text.proofs.Headings.{behind_version, heading_behind, allowed_behind, canonical_heading}
use Rattle.laws_canonical_text.proofs.Places.{both_none, no_kinds, one_line, in_place, behind_clean, places_kept, anew_kept}
use Rattle.laws_canonical_text.proofs.Names.{names_kept}
use Rattle.laws_canonical_text.proofs.Limits as limits
use Rattle.laws_canonical_text.proofs.Limits.{limits_kept, are_ranged}
use Rattle.script_table.specs.Patterns.{Row}
use Rattle.laws_canonical_text.proofs.Table.{IsTable}

no_end : (c : ℕ) → is_allowed c ≡ true → (c == 10) ≡ false
no_end c e = search rules

line_then : (l rest : List ℕ) → list_all is_allowed l ≡ true → lines_of (l ++ 10 ∷ rest) ≡ l ∷ lines_of rest
unfolding lines_of
line_then [] rest h = refl
line_then (c ∷ l) rest h =
    let e = both (is_allowed c) (list_all is_allowed l) h in
    rw (no_end c e.0) (ap (onto_first c) (line_then l rest e.1))

pub lines_back : (ls : List (List ℕ)) → list_all (λ l. list_all is_allowed l) ls ≡ true → lines_of (joined_lines ls) ≡ ls
lines_back [] h = no_lines
lines_back (l ∷ ls) h =
    let e = both (list_all is_allowed l) (list_all (λ x. list_all is_allowed x) ls) h in
    line_then l (joined_lines ls) e.0 ∙ ap (λ r. l ∷ r) (lines_back ls e.1)

not_bad : (b : Bool) → not b ≡ false → b ≡ true
not_bad true e = refl
not_bad false e = absurd (let f : true ≡ false = e in cc)

-- the number behind the last line matters only where there is no thread
any_end : (ss : List Said) (t : Tally) (n m : ℕ) → phase_three n t ss ≡ [] → phase_three m t ss ≡ []
any_end [] t n m e = ap (λ kinds. faults_at 3 m kinds) (limits.no_kinds n (when (t.counts.threads == 0) NoThread) e)
any_end (s ∷ ss) t n m e =
    let split = both_none (faults_at 3 s.line (range_faults (tallied t s.row.form) s)) (phase_three n (tallied t s.row.form) ss) e in
    rw (split.0, any_end ss (tallied t s.row.form) n m split.1) refl

module _ (rows : List Row) (table : IsTable rows) where
  pub are_allowed : (lines : List (List ℕ)) (openings : List Opening) (n : ℕ) → phase_one rows n (Some openings) lines ≡ [] → list_all (λ l. list_all is_allowed l) lines ≡ true
  are_allowed [] openings n e = refl
  are_allowed (line ∷ lines) openings n e =
      let split = both_none (faults_at 1 n (line_faults rows (Some openings) line)) (phase_one rows (n + 1) (behind_line rows (Some openings) line) lines) (sym (one_line rows table n (Some openings) line lines) ∙ e) in
      let none = no_kinds n (line_faults rows (Some openings) line) split.0 in
      let after = behind_clean rows table openings line (row_of_line rows line) refl none in
      let rest = subst (λ o. phase_one rows (n + 1) o lines ≡ []) after split.1 in
      let here : list_all is_allowed line ≡ true = not_bad (list_all is_allowed line) (in_place rows table openings line none).bytes in
      rw (here, are_allowed lines (opened_by (row_of_line rows line) openings) (n + 1) rest) refl

  pub statements_kept : (b : Beginning) → HasNoFault rows b → KeepsStatements rows b
  statements_kept b clean =
      let most : ℕ = most_of b.version in
      let part : Beginning = canonical_part rows b in
      let ranged = are_ranged rows table b.lines (no_tally most) b.number 1 (clean.limits 1) in
      let anew = anew_kept rows table b.lines [] b.number clean.places ranged part.number in
      record {
        clean = record {
          places = places_kept rows table b.lines [] b.number clean.places ranged part.number;
          names = names_kept rows table b.number part.number b.lines clean.names anew;
          limits = λ n. limits_kept (said_in rows b) (said_in rows part) (no_tally most) n n anew (clean.limits n);
        };
        anew = anew;
      }

  pub no_fault : (b : Beginning) → faults_in rows b ≡ [] → HasNoFault rows b
  no_fault b e =
      let ss : List Said = said_in rows b in
      let t : Tally = no_tally (most_of b.version) in
      let last : ℕ = b.number + length b.lines in
      let first = both_none (phase_one rows b.number (Some []) b.lines) (phase_two (declared ss) ss ++ phase_three last t ss) e in
      let second = both_none (phase_two (declared ss) ss) (phase_three last t ss) first.1 in
      record { places = first.0; names = second.0; limits = λ n. any_end ss t last n second.1 }

  pub faults_none : (b : Beginning) → HasNoFault rows b → faults_in rows b ≡ []
  faults_none b clean = rw (clean.places, clean.names, clean.limits (b.number + length b.lines)) refl

  pub ranged_in : (b : Beginning) → HasNoFault rows b → AreRanged rows b.lines
  ranged_in b clean = are_ranged rows table b.lines (no_tally (most_of b.version)) b.number 1 (clean.limits 1)

  -- where the text of its canonical lines begins
  pub canonical_begins : (b : Beginning) → HasNoFault rows b → heading 1 (lines_of (joined_lines (behind_version b.version (canonical_lines rows b.lines)))) ≡ Ok (canonical_part rows b)
  canonical_begins b clean =
      let kept = statements_kept b clean in
      let lines : List (List ℕ) = canonical_lines rows b.lines in
      let allowed = allowed_behind b.version lines (are_allowed lines [] (first_line b.version) kept.clean.places) in
      ap (heading 1) (lines_back (behind_version b.version lines) allowed)
      ∙ heading_behind b.version lines (canonical_heading rows table b.lines [] b.number clean.places (ranged_in b clean) 1)

module _ (tables : Tables) (table : (v : Version) → IsTable (tables v)) where
  abbrev KeepsBehind : Result Beginning Fault → List ℕ → Type 0
  KeepsBehind found text = (faults tables text ≡ []) × AreAnew (said_behind tables found) (said tables text)

  kept_behind : (found : Result Beginning Fault) → faults_behind tables found ≡ [] → KeepsBehind found (canonical_behind tables found)
  kept_behind (Err f) e = absurd (let h : (f ∷ []) ≡ [] = e in cc)
  kept_behind (Ok b) e =
      let rows : List Row = tables b.version in
      let clean = no_fault rows (table b.version) b e in
      let kept = statements_kept rows (table b.version) b clean in
      let part : Beginning = canonical_part rows b in
      let heads = canonical_begins rows (table b.version) b clean in (
        ap (faults_behind tables) heads ∙ faults_none rows (table b.version) part kept.clean,
        subst (λ found. AreAnew (said_in rows b) (said_behind tables found)) (sym heads) kept.anew,
      )

  pub text_kept : (text : List ℕ) → faults tables text ≡ [] → KeepsText tables text
  text_kept text e = let h = kept_behind (heading 1 (lines_of text)) e in record { clean = h.0; anew = h.1 }
