-- A text and its canonical text are read as the same script.
use Rattle.std.proofs.Common.{◌≡◌, ap, ℕ, ◌+◌, List, [], ◌∷◌, refl, sym, ◌∙◌, subst, Bool, true, false, Option, None, Some}
use Rattle.std.specs.Prelude.{if◌then◌else◌, Result, Ok, Err}
use Rattle.std.specs.List.{list_all}
use Rattle.script_lex.specs.Lines.{lines_of}
use Rattle.script_lex.specs.Words.{line_words}
use Rattle.words_script.specs.declared.decl.Script.{Script}
use Rattle.script_table.specs.declared.pattern.Opening.{Opening}
use Rattle.script_table.specs.Faults.{Fault, is_before, earlier, least, faults_at}
use Rattle.script_table.specs.Patterns.{Row, Spot}
use Rattle.script_table.specs.LineFaults.{fits, place_faults, spelling}
use Rattle.script_table.specs.Names.{declared}
use Rattle.script_table.specs.Ranges.{range_fault}
use Rattle.script_table.specs.Structure.{Said, said_from, row_of_line, line_faults, behind_line, opened_by, phase_one}
use Rattle.script_table.specs.Build.{script_of}
use Rattle.script_table.specs.declared.version.Version.{Version}
use Rattle.script_table.specs.Heading.{Beginning, heading}
use Rattle.script_table.specs.Read.{Tables, said_in, faults_in, verdict, read_in, read_behind, read}
use Rattle.laws_canonical_text.specs.Apart.{is_bounded}
use Rattle.laws_canonical_text.specs.Laws.{IsSound, IsRanged, AreRanged, HasNoFault, canonical_part, canonical_behind, canonical_text}
use Rattle.laws_canonical_text.proofs.Apart.{found_passes, found_fits}
use Rattle.laws_canonical_text.proofs.Declares.{declares_rightly}
use Rattle.laws_canonical_text.proofs.Forms.{fitting_has}
use Rattle.laws_canonical_text.proofs.LineLaws.{some_found}
use Rattle.laws_canonical_text.proofs.Naming.{numbers_alike}
use Rattle.laws_canonical_text.proofs.Places.{InPlace, both_none, no_kinds, one_line, in_place, behind_clean, nothing_said, said_none, said_some}
use Rattle.laws_canonical_text.proofs.Rebuilt.{SoundSaid, AllSound, script_anew}
use Rattle.laws_canonical_text.proofs.Text.{no_fault, faults_none, ranged_in, statements_kept, canonical_begins}
use Rattle.laws_canonical_text.proofs.Table.{IsTable}

refused : (b : Bool) (f g : Fault) (s script : Script) → verdict (if b then Some g else Some f) s ≡ Ok script → ⊥
refused true f g s script e = let h : Err g ≡ Ok script = e in cc
refused false f g s script e = let h : Err f ≡ Ok script = e in cc

none_least : (f : Fault) (o : Option Fault) (s script : Script) → verdict (earlier f o) s ≡ Ok script → ⊥
none_least f None s script e = let h : Err f ≡ Ok script = e in cc
none_least f (Some g) s script e = refused (is_before g f) f g s script e

accepted : (fs : List Fault) (s script : Script) → verdict (least fs) s ≡ Ok script → (fs ≡ []) × (s ≡ script)
accepted [] s script e = (refl, (let h : Ok s ≡ Ok script = e in cc))
accepted (f ∷ fs) s script e = absurd (none_least f (least fs) s script e)

module _ (rows : List Row) (table : IsTable rows) where
  pub sound_said : (n : ℕ) (row : Row) (line : List ℕ) → IsSound rows row line → SoundSaid (record { line = n; row = row; words = line_words line })
  sound_said n row line sound =
      let found = some_found rows (line_words line) row sound.pattern in
      let test : Row → Bool = λ r. fits r.places (line_words line) in
      let has = fitting_has rows table.places (line_words line) row found in
      let bounded : list_all is_bounded row.places ≡ true = found_passes test (λ r. list_all is_bounded r.places) rows row found table.bounded in
      record {
        places = has;
        declares = found_passes test declares_rightly rows row found table.declares;
        sound = record {
          bounded = subst (λ (places : List Spot). list_all is_bounded places ≡ true) has bounded;
          fit = subst (λ places. fits places (line_words line) ≡ true) has (found_fits rows (line_words line) row found);
          clean = record {
            spelled = subst (λ places. place_faults spelling places (line_words line) ≡ []) has sound.spelled;
            ranged = subst (λ places. place_faults range_fault places (line_words line) ≡ []) has sound.ranged;
          };
        };
      }

  sound_by_row : (row : Option Row) (openings : List Opening) (line : List ℕ) (lines : List (List ℕ)) (n : ℕ)
      → row_of_line rows line ≡ row → line_faults rows (Some openings) line ≡ [] → IsRanged row line
      → AllSound (said_from rows (n + 1) lines) → AllSound (said_from rows n (line ∷ lines))
  sound_by_row None openings line lines n is none ranged rest = subst AllSound (sym (said_none rows table n line lines is)) rest
  sound_by_row (Some row) openings line lines n is none ranged rest =
      let place : InPlace rows table (Some row) openings line = subst (λ r. InPlace rows table r openings line) is (in_place rows table openings line none) in
      let sound : IsSound rows row line = record { pattern = is; bytes = place.bytes; spelled = place.own; ranged = ranged } in
      subst AllSound (sym (said_some rows table n line lines row is)) (sound_said n row line sound, rest)

  -- the statements of lines without a fault
  pub all_sound : (lines : List (List ℕ)) (openings : List Opening) (n : ℕ) → phase_one rows n (Some openings) lines ≡ [] → AreRanged rows lines → AllSound (said_from rows n lines)
  all_sound [] openings n e ranged = subst AllSound (sym (nothing_said rows table n)) tt
  all_sound (line ∷ lines) openings n e ranged =
      let split = both_none (faults_at 1 n (line_faults rows (Some openings) line)) (phase_one rows (n + 1) (behind_line rows (Some openings) line) lines) (sym (one_line rows table n (Some openings) line lines) ∙ e) in
      let none = no_kinds n (line_faults rows (Some openings) line) split.0 in
      let after = behind_clean rows table openings line (row_of_line rows line) refl none in
      let rest = subst (λ o. phase_one rows (n + 1) o lines ≡ []) after split.1 in
      sound_by_row (row_of_line rows line) openings line lines n refl none ranged.0 (all_sound lines (opened_by (row_of_line rows line) openings) (n + 1) rest ranged.1)

  pub lines_sound : (b : Beginning) → HasNoFault rows b → AllSound (said_in rows b)
  lines_sound b clean = all_sound b.lines [] b.number clean.places (ranged_in rows table b clean)

module _ (tables : Tables) (table : (v : Version) → IsTable (tables v)) where
  -- what a text that is read has
  pub record IsRead (text : List ℕ) (script : Script) : Type 0 where
    pub part : Beginning
    pub begins : heading 1 (lines_of text) ≡ Ok part
    pub clean : HasNoFault (tables part.version) part
    pub means : script_of part.version (declared (said_in (tables part.version) part)).names (said_in (tables part.version) part) ≡ script

  read_behind_heading : (text : List ℕ) (script : Script) (found : Result Beginning Fault) → heading 1 (lines_of text) ≡ found → read_behind tables found ≡ Ok script → IsRead text script
  unfolding read_in
  read_behind_heading text script (Err f) is e = absurd (let h : Err f ≡ Ok script = e in cc)
  read_behind_heading text script (Ok b) is e =
      let rows : List Row = tables b.version in
      let h = accepted (faults_in rows b) (script_of b.version (declared (said_in rows b)).names (said_in rows b)) script e in
      record { part = b; begins = is; clean = no_fault rows (table b.version) b h.0; means = h.1 }

  pub is_read : (text : List ℕ) (script : Script) → read tables text ≡ Ok script → IsRead text script
  unfolding read
  is_read text script e = read_behind_heading text script (heading 1 (lines_of text)) refl e

  read_part : (b : Beginning) (script : Script) → HasNoFault (tables b.version) b → script_of b.version (declared (said_in (tables b.version) b)).names (said_in (tables b.version) b) ≡ script
      → read_in (tables b.version) b ≡ Ok script
  unfolding read_in
  read_part b script clean means = rw (faults_none (tables b.version) (table b.version) b clean, means) refl

  pub read_of : (text : List ℕ) (script : Script) → IsRead text script → read tables text ≡ Ok script
  unfolding read
  read_of text script h = ap (read_behind tables) h.begins ∙ read_part h.part script h.clean h.means

  pub meaning_kept : (text : List ℕ) (script : Script) → read tables text ≡ Ok script → read tables (canonical_text tables text) ≡ Ok script
  meaning_kept text script e =
      let old = is_read text script e in
      let b : Beginning = old.part in
      let rows : List Row = tables b.version in
      let part : Beginning = canonical_part rows b in
      let ss : List Said = said_in rows b in
      let ts : List Said = said_in rows part in
      let kept = statements_kept rows (table b.version) b old.clean in
      read_of (canonical_text tables text) script (record {
        part = part;
        begins = ap (λ found. heading 1 (lines_of (canonical_behind tables found))) old.begins ∙ canonical_begins rows (table b.version) b old.clean;
        clean = kept.clean;
        means = script_anew b.version (declared ss).names (declared ts).names (numbers_alike ss ts kept.anew) ss ts kept.anew (lines_sound rows (table b.version) b old.clean) ∙ old.means;
      })
