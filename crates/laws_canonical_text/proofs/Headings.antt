-- Where a canonical text begins.
use Rattle.std.proofs.Common.{zero, suc, take, ◌≡◌, ◌≤◌, arith, ℕ, ◌+◌, List, [], ◌∷◌, ◌++◌, refl, sym, ◌∙◌, ap, subst, Bool, true, false, not, Option, None, Some}
use Rattle.std.specs.Prelude.{◌==◌, Result, Ok, Err, codes, map}
use Rattle.std.specs.List.{list_all, prefix_len}
use Rattle.std.specs.Str.{bytes_eq}
use Rattle.script_lex.specs.Words.{before_comment, words_of, line_words, has_bad_byte, is_allowed}
use Rattle.script_lex.specs.Joined.{joined_words, joined_lines}
use Rattle.script_lex.proofs.Rejoined.{both}
use Rattle.script_table.specs.declared.version.Version.{Version}
use Rattle.script_table.specs.declared.version.Version.TheVariants.{One, Two}
use Rattle.script_table.specs.declared.pattern.Opening.{Opening}
use Rattle.script_table.specs.Versions.{version_number}
use Rattle.script_table.specs.declared.faults.FaultKind.TheVariants.{BadByte, BadVersion}
use Rattle.script_table.specs.Faults.{Fault, fault, faults_at}
use Rattle.script_table.specs.Patterns.{Spot, Keyword, Answer, Number, Operand, Declares, Uses, Signal, Acts, Signals, Row}
use Rattle.script_table.specs.LineFaults.{stands, fits, fitting_some}
use Rattle.script_table.specs.Structure.{row_of_line, line_faults, behind_line, opened_by, phase_one}
use Rattle.script_table.specs.Heading.{Beginning, begins, is_version, is_two, unless_bad, by_version, by_words, heading, printed, printed_words}
use Rattle.script_writer.specs.Canon.{Words, version_words, version_lines, text_of}
use Rattle.laws_canonical_text.specs.Apart.{is_unversioned}
use Rattle.laws_canonical_text.specs.Laws.{IsSound, canonical_line, canonical_of, canonical_lines, IsRanged, AreRanged, first_line}
use Rattle.laws_canonical_text.proofs.Apart.{alone, clash, found_fits, found_passes}
use Rattle.laws_canonical_text.proofs.LineLaws.{keeps_pattern}
use Rattle.laws_canonical_text.proofs.Places.{InPlace, both_none, no_kinds, one_line, in_place, behind_clean}
use Rattle.laws_canonical_text.proofs.Table.{IsTable}

none_left : (n : ℕ) → heading n [] ≡ begins One n []
unfolding heading
none_left n = refl

allowed_printed : (b : Bool) (c : ℕ) → is_allowed c ≡ b → b ≡ true → printed c ≡ c
allowed_printed true c is e = rw is refl
allowed_printed false c is e = absurd (cc)

-- what is allowed is printed as it is
all_printed : (cs : List ℕ) → list_all is_allowed cs ≡ true → map printed cs ≡ cs
all_printed [] e = refl
all_printed (c ∷ cs) e =
    let h = both (is_allowed c) (list_all is_allowed cs) e in
    ap (λ d. d ∷ map printed cs) (allowed_printed (is_allowed c) c refl h.0) ∙ ap (λ ds. c ∷ ds) (all_printed cs h.1)

front_allowed : (k : ℕ) (cs : List ℕ) → list_all is_allowed cs ≡ true → list_all is_allowed (take k cs) ≡ true
front_allowed zero cs e = refl
front_allowed (suc k) [] e = refl
front_allowed (suc k) (c ∷ cs) e =
    let h = both (is_allowed c) (list_all is_allowed cs) e in
    rw (h.0, front_allowed k cs h.1) refl

not_bad : (b : Bool) → not b ≡ false → b ≡ true
not_bad true e = refl
not_bad false e = absurd (cc)

-- the words of a line without a bad byte
clean_words : (line : List ℕ) → has_bad_byte line ≡ false → printed_words line ≡ line_words line
clean_words line good = ap words_of (all_printed (before_comment line) (front_allowed (prefix_len (λ c. not (c == 35)) line) line (not_bad (list_all is_allowed line) good)))

plain_first : (n : ℕ) (line w : List ℕ) (ws lines : List (List ℕ)) → has_bad_byte line ≡ false → line_words line ≡ w ∷ ws → is_version w ≡ false → heading n (line ∷ lines) ≡ begins One n (line ∷ lines)
unfolding heading
plain_first n line w ws lines good is e = rw (clean_words line good, is, e) refl

version_first : (lines : List (List ℕ)) → heading 1 (joined_words version_words ∷ lines) ≡ begins Two 2 lines
unfolding heading words_of
version_first lines = refl

after_case : (bad : Bool) (n k : ℕ) (line : List ℕ) (rest : Result Beginning Fault) (b : Beginning) → has_bad_byte line ≡ bad → unless_bad n line rest ≡ Ok b → (rest ≡ Ok b → k ≤ b.number) → k ≤ b.number
after_case true n k line rest b is e next = let h : Err (fault 1 n BadByte) ≡ Ok b = rw is at e in absurd (cc)
after_case false n k line rest b is e next = next (rw is at e)

begins_at : (v : Version) (n m : ℕ) (lines : List (List ℕ)) (b : Beginning) → n ≤ m → begins v m lines ≡ Ok b → n ≤ b.number
begins_at v n m lines b le e =
    let h : record { version = v; number = m; lines = lines } ≡ b = cc in
    let same : m ≡ b.number = ap (λ x. x.number) h in
    omega arith

two_case : (two : Bool) (n : ℕ) (line : List ℕ) (words lines : List (List ℕ)) (b : Beginning) → is_two words ≡ two → by_version n line words lines ≡ Ok b → n ≤ b.number
two_case true n line words lines b is e =
    let h : unless_bad n line (begins Two (n + 1) lines) ≡ Ok b = rw is at e in
    after_case (has_bad_byte line) n n line (begins Two (n + 1) lines) b refl h (begins_at Two n (n + 1) lines b (omega arith))
two_case false n line words lines b is e = let h : Err (fault 1 n BadVersion) ≡ Ok b = rw is at e in absurd (cc)

first_case : (named : Bool) (n : ℕ) (line w : List ℕ) (ws lines : List (List ℕ)) (rest : Result Beginning Fault) (b : Beginning) → is_version w ≡ named → by_words n line (w ∷ ws) lines rest ≡ Ok b → n ≤ b.number
first_case true n line w ws lines rest b is e = two_case (is_two ws) n line ws lines b refl (rw is at e)
first_case false n line w ws lines rest b is e = begins_at One n n (line ∷ lines) b (omega arith) (rw is at e)

words_case : (n : ℕ) (line : List ℕ) (words lines : List (List ℕ)) (rest : Result Beginning Fault) (b : Beginning) → by_words n line words lines rest ≡ Ok b → (rest ≡ Ok b → n ≤ b.number) → n ≤ b.number
words_case n line [] lines rest b e next = after_case (has_bad_byte line) n n line rest b refl e next
words_case n line (w ∷ ws) lines rest b e next = first_case (is_version w) n line w ws lines rest b refl e

-- no line before the first is one that says something
pub heading_from : (n : ℕ) (lines : List (List ℕ)) (b : Beginning) → heading n lines ≡ Ok b → n ≤ b.number
unfolding heading
heading_from n [] b e = begins_at One n n [] b (omega arith) e
heading_from n (line ∷ lines) b e =
    words_case n line (printed_words line) lines (heading (n + 1) lines) b e (λ h. let more = heading_from (n + 1) lines b h in omega arith)

-- lines of a version behind the line of the version
abbrev pub behind_version : Version → List (List ℕ) → List (List ℕ)
behind_version v lines = map joined_words (version_lines (version_number v)) ++ lines

pub heading_behind : (v : Version) (lines : List (List ℕ)) → heading 1 lines ≡ begins One 1 lines → heading 1 (behind_version v lines) ≡ begins v (first_line v) lines
heading_behind One lines e = e
heading_behind Two lines e = version_first lines

pub allowed_behind : (v : Version) (lines : List (List ℕ)) → list_all (λ l. list_all is_allowed l) lines ≡ true → list_all (λ l. list_all is_allowed l) (behind_version v lines) ≡ true
allowed_behind One lines e = e
allowed_behind Two lines e = e

pub text_behind : (v : Version) (lines : List Words) → text_of (version_lines (version_number v) ++ lines) ≡ joined_lines (behind_version v (map joined_words lines))
text_behind One lines = refl
text_behind Two lines = refl

same_word : (b : Bool) (k w : List ℕ) → is_version w ≡ b → bytes_eq w k ≡ true → not (is_version k) ≡ true → b ≡ false
same_word false k w is fit other = refl
same_word true k w is fit other = clash (is_version k) (alone k (codes "version") w fit is) (not_true (is_version k) other) where
  not_true : (c : Bool) → not c ≡ true → c ≡ false
  not_true true e = clash false e refl
  not_true false e = refl

-- a pattern that no line of a version has
other_first : (spots : List Spot) (w : List ℕ) (ws : List (List ℕ)) → is_unversioned spots ≡ true → fits spots (w ∷ ws) ≡ true → is_version w ≡ false
other_first [] w ws e fit = clash false e refl
other_first (Keyword k ∷ spots) w ws e fit = same_word (is_version w) k w refl (both (stands (Keyword k) w) (fits spots ws) fit).0 e
other_first (Answer ∷ spots) w ws e fit = clash false e refl
other_first (Number low high ∷ spots) w ws e fit = clash false e refl
other_first (Operand ∷ spots) w ws e fit = clash false e refl
other_first (Declares kind ∷ spots) w ws e fit = clash false e refl
other_first (Uses kind ∷ spots) w ws e fit = clash false e refl
other_first (Signal ∷ spots) w ws e fit = clash false e refl
other_first (Acts ∷ spots) w ws e fit = clash false e refl
other_first (Signals ∷ spots) w ws e fit = clash false e refl

module _ (rows : List Row) (table : IsTable rows) where
  by_first : (words : List (List ℕ)) (n : ℕ) (row : Row) (line : List ℕ) (lines : List (List ℕ)) → has_bad_byte line ≡ false → line_words line ≡ words → fitting_some rows words ≡ Some row → heading n (line ∷ lines) ≡ begins One n (line ∷ lines)
  by_first [] n row line lines good is found = absurd (let f : None ≡ Some row = found in cc)
  by_first (w ∷ ws) n row line lines good is found =
      let test : Row → Bool = λ r. fits r.places (w ∷ ws) in
      let other = found_passes test (λ r. is_unversioned r.places) rows row found table.unversioned in
      plain_first n line w ws lines good is (other_first row.places w ws other (found_fits rows (w ∷ ws) row found))

  -- a line that has a pattern is the first that says something
  pub sound_first : (n : ℕ) (row : Row) (line : List ℕ) (lines : List (List ℕ)) → IsSound rows row line → heading n (line ∷ lines) ≡ begins One n (line ∷ lines)
  sound_first n row line lines sound = by_first (line_words line) n row line lines sound.bytes refl sound.pattern

  canonical_by_row : (row : Option Row) (openings : List Opening) (line : List ℕ) (lines : List (List ℕ)) (m : ℕ)
      → row_of_line rows line ≡ row → line_faults rows (Some openings) line ≡ [] → IsRanged row line
      → heading m (canonical_lines rows lines) ≡ begins One m (canonical_lines rows lines)
      → heading m (canonical_of row line ++ canonical_lines rows lines) ≡ begins One m (canonical_of row line ++ canonical_lines rows lines)
  canonical_by_row None openings line lines m is none ranged rest = rest
  canonical_by_row (Some row) openings line lines m is none ranged rest =
      let place : InPlace rows table (Some row) openings line = subst (λ r. InPlace rows table r openings line) is (in_place rows table openings line none) in
      let kept = keeps_pattern rows table row line (record { pattern = is; bytes = place.bytes; spelled = place.own; ranged = ranged }) in
      sound_first m row (canonical_line row line) (canonical_lines rows lines) kept.sound

  pub canonical_heading : (lines : List (List ℕ)) (openings : List Opening) (n : ℕ) → phase_one rows n (Some openings) lines ≡ [] → AreRanged rows lines
      → (m : ℕ) → heading m (canonical_lines rows lines) ≡ begins One m (canonical_lines rows lines)
  canonical_heading [] openings n e ranged m = none_left m
  canonical_heading (line ∷ lines) openings n e ranged m =
      let split = both_none (faults_at 1 n (line_faults rows (Some openings) line)) (phase_one rows (n + 1) (behind_line rows (Some openings) line) lines) (sym (one_line rows table n (Some openings) line lines) ∙ e) in
      let none = no_kinds n (line_faults rows (Some openings) line) split.0 in
      let after = behind_clean rows table openings line (row_of_line rows line) refl none in
      let rest = subst (λ o. phase_one rows (n + 1) o lines ≡ []) after split.1 in
      canonical_by_row (row_of_line rows line) openings line lines m refl none ranged.0 (canonical_heading lines (opened_by (row_of_line rows line) openings) (n + 1) rest ranged.1 m)
