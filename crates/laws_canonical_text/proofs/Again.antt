-- The canonical text of a script that was read is read as that script.
use Rattle.std.proofs.Common.{◌≡◌, ◌≤◌, ◌<◌, ◌^◌, ℕ, ◌+◌, List, [], ◌∷◌, ◌++◌, refl, sym, ◌∙◌, ap, subst, true, Option, None, Some, arith}
use Rattle.std.specs.Prelude.{cond, filter, not, map, unwrap_or, codes, decimal, Ok}
use Rattle.std.specs.List.{list_all}
use Rattle.script_lex.specs.Lines.{lines_of}
use Rattle.script_lex.specs.Words.{line_words}
use Rattle.script_lex.specs.Joined.{joined_words, joined_lines, is_word}
use Rattle.script_lex.proofs.Rejoined.{line_words-joined, has_bad_byte-joined}
use Rattle.words_script.specs.declared.decl.Decl.{Decl}
use Rattle.words_script.specs.declared.decl.Script.{Script}
use Rattle.script_table.specs.declared.pattern.Opening.{Opening}
use Rattle.script_table.specs.Faults.{faults_at}
use Rattle.script_table.specs.declared.form.Form.{Form}
use Rattle.script_table.specs.declared.form.Form.TheVariants as form
use Rattle.script_table.specs.Patterns.{Row, greatest}
use Rattle.script_table.specs.Words.{value_of}
use Rattle.script_table.specs.LineFaults.{fitting_some, place_faults, spelling}
use Rattle.script_table.specs.Ranges.{Tally, range_fault, no_tally, phase_three}
use Rattle.script_table.specs.Structure.{Said, said_from, row_of_line, line_faults, behind_line, opened, opened_by, unclosed, phase_one}
use Rattle.script_table.specs.Names.{Entry, Declared, nothing_declared, declared, phase_two}
use Rattle.script_table.specs.Operands.{number_in}
use Rattle.script_table.specs.Build.{Built, nothing_built, built_from, script_of_built, script_of}
use Rattle.script_table.specs.declared.version.Version.{Version}
use Rattle.script_table.specs.declared.version.Version.TheVariants.{One, Two}
use Rattle.script_table.specs.Versions.{version_number, most_of}
use Rattle.script_table.specs.Heading.{Beginning, heading}
use Rattle.script_table.specs.Table.{patterns}
use Rattle.script_table.specs.Read.{Tables, said_in, said_behind, said, read}
use Rattle.script_writer.specs.Upgraded.{upgraded}
use Rattle.script_writer.specs.Canon.{quantum_words, decls_lines, canon}
use Rattle.laws_canonical_text.specs.Canonical.{canonical_words}
use Rattle.laws_canonical_text.specs.Laws.{IsSound, canonical_line, IsRanged, AreRanged, IsAnew, AreAnew, HasNoFault, first_line}
use Rattle.laws_canonical_text.proofs.Decimals.{value_of-decimal, is_number-decimal, is_within-decimal}
use Rattle.laws_canonical_text.proofs.Kept.{decimal_word}
use Rattle.laws_canonical_text.proofs.Limits.{limits_kept}
use Rattle.laws_canonical_text.proofs.LineLaws.{keeps_pattern}
use Rattle.laws_canonical_text.proofs.Names.{Rises, Paired, said_rises, in_order, lined}
use Rattle.laws_canonical_text.proofs.Naming.{names_alike, numbers_alike}
use Rattle.laws_canonical_text.proofs.Places.{InPlace, both_none, no_kinds, no_lines, one_line, in_place, faults_none, behind_clean, nothing_said, said_none, said_some, anew_one}
use Rattle.laws_canonical_text.proofs.Text.{are_allowed, lines_back, ranged_in}
use Rattle.laws_canonical_text.proofs.Headings.{behind_version, heading_behind, allowed_behind, text_behind, sound_first, heading_from}
use Rattle.laws_canonical_text.proofs.Wider.{Widens, as_it_is, to_two, limits_wider}
use Rattle.laws_canonical_text.proofs.Rebuilt.{SoundSaid, AllSound, script_anew}
use Rattle.laws_canonical_text.proofs.Accepted.{sound_said, IsRead, is_read, read_of}
use Rattle.laws_canonical_text.proofs.Stack.{Placed}
use Rattle.laws_canonical_text.proofs.Printed.{AllTold, built_lines}
use Rattle.laws_canonical_text.proofs.Known.{AllKnown, nothing_known, known_names, give_names, all_told}
use Rattle.laws_canonical_text.proofs.Moved.{keep, keep_case, without, placed_without, rises_down, rises_without, names_without, declared_without, limits_without, built_without, InRange, built_range, words_of, lines_without}
use Rattle.laws_canonical_text.proofs.Table.{IsTable, the_table}
use Rattle.laws_canonical_text.specs.Statements.{quantum_row, quantum_said, is_quantum, quantum_first}

-- the canonical line of a statement
abbrev anew_line : Said → List ℕ
anew_line s = joined_words (words_of s)

-- the statements with canonical words, one on each line
abbrev numbered : ℕ → List Said → List Said
numbered n [] = []
numbered n (s ∷ ss) = record { line = n; row = s.row; words = words_of s } ∷ numbered (n + 1) ss

quantum_kept : (q : ℕ) → InRange q → quantum_words q ≡ words_of (quantum_said q)
quantum_kept q range =
    let high = range.high in
    let same : value_of (decimal q) ≡ q = value_of-decimal q (omega arith) in
    ap (λ n. codes "quantum" ∷ decimal n ∷ []) (sym same)

-- the statements with that of the quantum first
abbrev moved : ℕ → List Said → List Said
moved q ss = quantum_said q ∷ without ss

limits_moved : (most q : ℕ) → InRange q → (ss : List Said) (m : ℕ) → phase_three m (no_tally most) ss ≡ [] → phase_three m (no_tally most) (moved q ss) ≡ []
limits_moved most q range ss m e =
    let high = range.high in
    let within = is_within-decimal 1 greatest q range.low high (omega arith) in
    rw within (limits_without m 1 (no_tally most) ss e)

joined_each : (ss : List Said) → map joined_words (map words_of ss) ≡ map anew_line ss
joined_each [] = refl
joined_each (s ∷ ss) = ap (λ x. anew_line s ∷ x) (joined_each ss)

-- the script of the moved statements
script_moved : (v : Version) (es : List Entry) (q : ℕ) (ss : List Said) → InRange q → (built_from es nothing_built ss).quantum ≡ q → script_of v es (moved q ss) ≡ script_of v es ss
script_moved v es q ss range is =
    let high = range.high in
    let small : q < 2 ^ 64 = omega arith in
    let value : number_in 1 greatest 1 (quantum_words q) ≡ Some q = rw (is_within-decimal 1 greatest q range.low high small, value_of-decimal q small) refl in
    ap (λ o. script_of_built v (built_from es (record nothing_built { quantum = unwrap_or o 10 }) (without ss))) value
    ∙ (ap (script_of_built v) (built_without es q nothing_built ss)
    ∙ ap (λ n. record { version = version_number v; quantum = n; decls = (built_from es nothing_built ss).decls }) (sym is))

kept_or_not : (f : Form) (s : Said) (ss : List Said) → keep f s ss ≡ cond (not (is_quantum f)) (s ∷ ss) ss
kept_or_not form.Quantum s ss = refl
kept_or_not (form.Object f) s ss = refl
kept_or_not (form.Action f) s ss = refl
kept_or_not (form.Body f) s ss = refl
kept_or_not (form.Step f) s ss = refl
kept_or_not (form.Call f) s ss = refl
kept_or_not (form.Block f) s ss = refl
kept_or_not (form.Close f) s ss = refl

without_filter : (ss : List Said) → without ss ≡ filter (λ s. not (is_quantum s.row.form)) ss
without_filter [] = refl
without_filter (s ∷ ss) = ap (keep s.row.form s) (without_filter ss) ∙ kept_or_not s.row.form s (filter (λ s. not (is_quantum s.row.form)) ss)

module _ (rows : List Row) (table : IsTable rows) where
  -- a statement of a sound line
  record OnLine (s : Said) : Type 0 where
    line : List ℕ
    sound : IsSound rows s.row line
    words : s.words ≡ line_words line

  abbrev AllOn : List Said → Type 0
  AllOn [] = Unit {0}
  AllOn (s ∷ ss) = OnLine s × AllOn ss

  -- what the statements of lines without a fault of their own are, and where they stand
  record Stands (openings : List Opening) (ss : List Said) : Type 0 where
    on : AllOn ss
    placed : Placed openings ss

  stands_by_row : (row : Option Row) (openings : List Opening) (line : List ℕ) (lines : List (List ℕ)) (n : ℕ)
      → row_of_line rows line ≡ row → line_faults rows (Some openings) line ≡ [] → IsRanged row line
      → Stands (opened_by row openings) (said_from rows (n + 1) lines) → Stands openings (said_from rows n (line ∷ lines))
  stands_by_row None openings line lines n is none ranged rest = subst (Stands openings) (sym (said_none rows table n line lines is)) rest
  stands_by_row (Some row) openings line lines n is none ranged rest =
      let place : InPlace rows table (Some row) openings line = subst (λ r. InPlace rows table r openings line) is (in_place rows table openings line none) in
      let sound : IsSound rows row line = record { pattern = is; bytes = place.bytes; spelled = place.own; ranged = ranged } in
      subst (Stands openings) (sym (said_some rows table n line lines row is))
      (record { on = (record { line = line; sound = sound; words = refl }, rest.on); placed = (place.place, rest.placed) })

  stands : (lines : List (List ℕ)) (openings : List Opening) (n : ℕ) → phase_one rows n (Some openings) lines ≡ [] → AreRanged rows lines → Stands openings (said_from rows n lines)
  stands [] openings n e ranged =
      let closed = no_kinds n (unclosed (Some openings)) (sym (no_lines rows table n (Some openings)) ∙ e) in
      subst (Stands openings) (sym (nothing_said rows table n)) (record { on = tt; placed = closed })
  stands (line ∷ lines) openings n e ranged =
      let split = both_none (faults_at 1 n (line_faults rows (Some openings) line)) (phase_one rows (n + 1) (behind_line rows (Some openings) line) lines) (sym (one_line rows table n (Some openings) line lines) ∙ e) in
      let none = no_kinds n (line_faults rows (Some openings) line) split.0 in
      let after = behind_clean rows table openings line (row_of_line rows line) refl none in
      let rest = subst (λ o. phase_one rows (n + 1) o lines ≡ []) after split.1 in
      stands_by_row (row_of_line rows line) openings line lines n refl none ranged.0 (stands lines (opened_by (row_of_line rows line) openings) (n + 1) rest ranged.1)

  on_sound : (s : Said) → OnLine s → SoundSaid s
  on_sound s on = subst (λ w. SoundSaid (record { line = s.line; row = s.row; words = w })) (sym on.words) (sound_said rows table s.line s.row on.line on.sound)

  all_sound : (ss : List Said) → AllOn ss → AllSound ss
  all_sound [] on = tt
  all_sound (s ∷ ss) on = (on_sound s on.0, all_sound ss on.1)

  on_without : (ss : List Said) → AllOn ss → AllOn (without ss)
  on_without [] on = tt
  on_without (s ∷ ss) on = let ih = on_without ss on.1 in keep_case AllOn s.row.form s (without ss) (λ q. ih) (λ other. (on.0, ih))

  record Anew (s : Said) : Type 0 where
    sound : IsSound rows s.row (anew_line s)
    words : line_words (anew_line s) ≡ words_of s
    said : (m : ℕ) → IsAnew s (record { line = m; row = s.row; words = words_of s })

  anew : (s : Said) → OnLine s → Anew s
  anew s on =
      let kept = keeps_pattern rows table s.row on.line on.sound in
      let same : anew_line s ≡ canonical_line s.row on.line = ap (λ w. joined_words (canonical_words s.row.places w)) on.words in
      let words : line_words (canonical_line s.row on.line) ≡ words_of s = kept.words ∙ ap (canonical_words s.row.places) (sym on.words) in
      record {
        sound = subst (IsSound rows s.row) (sym same) kept.sound;
        words = ap line_words same ∙ words;
        said = λ m.
            subst (λ w. IsAnew s (record { line = m; row = s.row; words = w })) words
            (subst (λ w. IsAnew (record { line = s.line; row = s.row; words = w }) (record { line = m; row = s.row; words = line_words (canonical_line s.row on.line) })) (sym on.words)
            (anew_one rows table s.line m s.row on.line on.sound));
      }

  said_numbered : (ss : List Said) (n : ℕ) → AllOn ss → said_from rows n (map anew_line ss) ≡ numbered n ss
  said_numbered [] n on = nothing_said rows table n
  said_numbered (s ∷ ss) n on =
      let one = anew s on.0 in
      said_some rows table n (anew_line s) (map anew_line ss) s.row one.sound.pattern
      ∙ (ap (λ w. record { line = n; row = s.row; words = w } ∷ said_from rows (n + 1) (map anew_line ss)) one.words
      ∙ ap (λ ts. record { line = n; row = s.row; words = words_of s } ∷ ts) (said_numbered ss (n + 1) on.1))

  anew_numbered : (ss : List Said) (n : ℕ) → AllOn ss → AreAnew ss (numbered n ss)
  anew_numbered [] n on = tt
  anew_numbered (s ∷ ss) n on = ((anew s on.0).said n, anew_numbered ss (n + 1) on.1)

  places_numbered : (ss : List Said) (openings : List Opening) (n : ℕ) → AllOn ss → Placed openings ss → phase_one rows n (Some openings) (map anew_line ss) ≡ []
  places_numbered [] openings n on placed = no_lines rows table n (Some openings) ∙ ap (λ kinds. faults_at 1 n kinds) placed
  places_numbered (s ∷ ss) openings n on placed =
      let one = anew s on.0 in
      let line : List ℕ = anew_line s in
      let clean = faults_none rows table openings line (Some s.row) one.sound.pattern (record { bytes = one.sound.bytes; own = one.sound.spelled; place = placed.0 }) in
      let after = behind_clean rows table openings line (Some s.row) one.sound.pattern clean in
      one_line rows table n (Some openings) line (map anew_line ss)
      ∙ (ap (λ kinds. faults_at 1 n kinds ++ phase_one rows (n + 1) (behind_line rows (Some openings) line) (map anew_line ss)) clean
      ∙ (ap (λ o. phase_one rows (n + 1) o (map anew_line ss)) after
      ∙ places_numbered ss (opened s.row.form openings) (n + 1) on.1 placed.1))

  quantum_on : (q : ℕ) → InRange q → OnLine (quantum_said q)
  quantum_on q range =
      let high = range.high in
      let small : q < 2 ^ 64 = omega arith in
      let words : list_all is_word (quantum_words q) ≡ true = rw (decimal_word q small) refl in
      let line : List ℕ = joined_words (quantum_words q) in
      let back : line_words line ≡ quantum_words q = line_words-joined (quantum_words q) words in
      let spelled : place_faults spelling quantum_row.places (quantum_words q) ≡ [] = rw (is_number-decimal q small) refl in
      let ranged : place_faults range_fault quantum_row.places (quantum_words q) ≡ [] = rw (is_within-decimal 1 greatest q range.low high small) refl in
      record {
        line = line;
        sound = record {
          pattern = ap (fitting_some rows) back ∙ table.quantum q;
          bytes = has_bad_byte-joined (quantum_words q) words;
          spelled = ap (place_faults spelling quantum_row.places) back ∙ spelled;
          ranged = ap (place_faults range_fault quantum_row.places) back ∙ ranged;
        };
        words = sym back;
      }

-- the statements of a text that is read: they are sound, they stand where they may, and the names of what is built of them are known
pub record Statements (ss : List Said) : Type 0 where
  pub sound : AllSound ss
  pub placed : Placed [] ss
  pub known : AllKnown (declared ss).names (built_from (declared ss).names nothing_built ss).decls
  pub told : AllTold (declared ss).names (built_from (declared ss).names nothing_built ss).decls ss

few_of : (v : Version) → most_of v ≤ 256
few_of One = omega arith
few_of Two = omega arith

module _ (tables : Tables) (table : (v : Version) → IsTable (tables v)) where
  stand_in : (b : Beginning) → HasNoFault (tables b.version) b → Stands (tables b.version) (table b.version) [] (said_in (tables b.version) b)
  stand_in b clean = stands (tables b.version) (table b.version) b.lines [] b.number clean.places (ranged_in (tables b.version) (table b.version) b clean)

  statements_of : (b : Beginning) → HasNoFault (tables b.version) b → Statements (said_in (tables b.version) b)
  statements_of b clean =
      let rows : List Row = tables b.version in
      let ss : List Said = said_in rows b in
      let d : Declared = declared ss in
      let t : Tally = no_tally (most_of b.version) in
      let here = stand_in b clean in
      let sound = all_sound rows (table b.version) ss here.on in
      let early : Rises 0 ss = rises_down 0 b.number ss (omega arith) (said_rises rows (table b.version) b.lines b.number) in
      let known = known_names d.names ss nothing_declared t nothing_built 0 1 nothing_known (few_of b.version) sound clean.names (clean.limits 1) early tt here.placed in
      let decls : List Decl = (built_from d.names nothing_built ss).decls in
      record {
        sound = sound;
        placed = here.placed;
        known = known;
        told = all_told d decls (give_names d.names decls known) ss t 1 sound clean.names (clean.limits 1);
      }

  pub statements : (text : List ℕ) (script : Script) → (e : read tables text ≡ Ok script)
      → Statements (said_in (tables (is_read tables table text script e).part.version) (is_read tables table text script e).part)
  statements text script e = let old = is_read tables table text script e in statements_of old.part old.clean

  module _ (b : Beginning) (script : Script) (begun : 1 ≤ b.number) (clean : HasNoFault (tables b.version) b)
      (means : script_of b.version (declared (said_in (tables b.version) b)).names (said_in (tables b.version) b) ≡ script)
      (w : Version) (more : Widens tables b.version w) where
    abbrev rows : List Row
    rows = tables b.version

    abbrev new : List Row
    new = tables w

    abbrev as_new : Script
    as_new = record script { version = version_number w }

    wider_on : (s : Said) → OnLine rows (table b.version) s → OnLine new (table w) s
    wider_on s on = record {
      line = on.line;
      sound = record { pattern = more.rows (line_words on.line) s.row on.sound.pattern; bytes = on.sound.bytes; spelled = on.sound.spelled; ranged = on.sound.ranged };
      words = on.words;
    }

    all_wider : (ss : List Said) → AllOn rows (table b.version) ss → AllOn new (table w) ss
    all_wider [] on = tt
    all_wider (s ∷ ss) on = (wider_on s on.0, all_wider ss on.1)

    -- the canonical text as one of that version is read as the script as one of it, and its statements are those of the lines
    record Again : Type 0 where
      reads : read tables (canon as_new) ≡ Ok as_new
      says : AreAnew (moved script.quantum (said_in rows b)) (said tables (canon as_new))

    whole : Again
    whole =
        let ss : List Said = said_in rows b in
        let d : Declared = declared ss in
        let built : Built = built_from d.names nothing_built ss in
        let q : ℕ = built.quantum in
        let range = built_range d.names nothing_built ss (record { low = omega arith; high = omega arith }) in
        let here = stand_in b clean in
        let sound = all_sound rows (table b.version) ss here.on in
        let rises : Rises 1 ss = rises_down 1 b.number ss begun (said_rises rows (table b.version) b.lines b.number) in
        let told = (statements_of b clean).told in
        let printed : decls_lines built.decls built.decls ≡ map words_of (without ss) = built_lines d.names built.decls ss nothing_built told tt here.placed ∙ lines_without ss sound in
        let first : List Said = moved q ss in
        let on : AllOn new (table w) first = all_wider first (quantum_on rows (table b.version) q range, on_without rows (table b.version) ss here.on) in
        let new_lines : List (List ℕ) = map anew_line first in
        let lines_are : map joined_words (quantum_words q ∷ decls_lines built.decls built.decls) ≡ new_lines =
        ap (λ ls. map joined_words (quantum_words q ∷ ls)) printed
        ∙ (ap (λ x. joined_words x ∷ map joined_words (map words_of (without ss))) (quantum_kept q range)
        ∙ ap (λ ls. anew_line (quantum_said q) ∷ ls) (joined_each (without ss))) in
        let text_is : canon as_new ≡ joined_lines (behind_version w new_lines) =
        ap (λ (s : Script). canon (record s { version = version_number w })) (sym means)
        ∙ (text_behind w (quantum_words q ∷ decls_lines built.decls built.decls) ∙ ap (λ ls. joined_lines (behind_version w ls)) lines_are) in
        let k : ℕ = first_line w in
        let ts : List Said = numbered k first in
        let said_is : said_from new k new_lines ≡ ts = said_numbered new (table w) first k on in
        let anew_all : AreAnew first ts = anew_numbered new (table w) first k on in
        let places = places_numbered new (table w) first [] k on (refl, placed_without [] ss here.placed) in
        let same_names : declared first ≡ d = declared_without nothing_declared ss sound in
        let names_first : phase_two (declared first) first ≡ [] = subst (λ x. phase_two x (without ss) ≡ []) (sym same_names) (names_without d ss clean.names) in
        let rises_first : Rises 0 first = (omega arith, rises_without 1 ss rises) in
        let rises_new : Rises k ts = subst (Rises k) said_is (said_rises new (table w) new_lines k) in
        let names_new : phase_two (declared ts) ts ≡ [] = names_alike (Paired first ts) (in_order first ts 0 k rises_first rises_new) first ts anew_all (lined first ts anew_all) names_first in
        let most : ℕ = most_of w in
        let limits_new : (n : ℕ) → phase_three n (no_tally most) ts ≡ [] =
        λ n. limits_kept first ts (no_tally most) n n anew_all (limits_wider n most (no_tally (most_of b.version)) first more.most (limits_moved (most_of b.version) q range ss n (clean.limits n))) in
        let part : Beginning = record { version = w; number = k; lines = new_lines } in
        let fine : HasNoFault new part = record {
          places = places;
          names = subst (λ xs. phase_two (declared xs) xs ≡ []) (sym said_is) names_new;
          limits = λ n. subst (λ xs. phase_three n (no_tally most) xs ≡ []) (sym said_is) (limits_new n);
        } in
        let allowed = allowed_behind w new_lines (are_allowed new (table w) new_lines [] k places) in
        let begins : heading 1 (lines_of (joined_lines (behind_version w new_lines))) ≡ Ok part =
        ap (heading 1) (lines_back (behind_version w new_lines) allowed)
        ∙ heading_behind w new_lines (sound_first new (table w) 1 (quantum_said q).row (anew_line (quantum_said q)) (map anew_line (without ss)) (anew new (table w) (quantum_said q) on.0).sound) in
        let sound_of_first : AllSound first = all_sound new (table w) first on in
        let means_new : script_of w (declared ts).names ts ≡ as_new =
        script_anew w (declared first).names (declared ts).names (numbers_alike first ts anew_all) first ts anew_all sound_of_first
        ∙ (ap (λ x. script_of w x.names first) same_names
        ∙ (script_moved w d.names q ss range refl ∙ ap (λ (s : Script). record s { version = version_number w }) means)) in
        let read_again : read tables (joined_lines (behind_version w new_lines)) ≡ Ok as_new =
        read_of tables table (joined_lines (behind_version w new_lines)) as_new (record {
          part = part;
          begins = begins;
          clean = fine;
          means = ap (λ xs. script_of w (declared xs).names xs) said_is ∙ means_new;
        }) in
        let says : AreAnew first (said tables (joined_lines (behind_version w new_lines))) =
        subst (λ found. AreAnew first (said_behind tables found)) (sym begins) (subst (AreAnew first) (sym said_is) anew_all) in
        let quantum : q ≡ script.quantum = ap (λ s. s.quantum) means in
        record {
          reads = subst (λ t. read tables t ≡ Ok as_new) (sym text_is) read_again;
          says = subst (λ n. AreAnew (moved n ss) (said tables (canon as_new))) quantum (subst (λ t. AreAnew first (said tables t)) (sym text_is) says);
        }

  again_as : (w : Version) (text : List ℕ) (script : Script) → ((v : Version) → Widens tables v w) → read tables text ≡ Ok script
      → read tables (canon (record script { version = version_number w })) ≡ Ok (record script { version = version_number w })
  again_as w text script more e =
      let old = is_read tables table text script e in
      (whole old.part script (heading_from 1 (lines_of text) old.part old.begins) old.clean old.means w (more old.part.version)).reads

  module _ (text : List ℕ) (script : Script) (e : read tables text ≡ Ok script) where
    abbrev old : IsRead tables table text script
    old = is_read tables table text script e

    own : version_number old.part.version ≡ script.version
    own = ap (λ (s : Script). s.version) old.means

    as_it_was : Again old.part script (heading_from 1 (lines_of text) old.part old.begins) old.clean old.means old.part.version (as_it_is tables old.part.version)
    as_it_was = whole old.part script (heading_from 1 (lines_of text) old.part old.begins) old.clean old.means old.part.version (as_it_is tables old.part.version)

    pub again : read tables (canon script) ≡ Ok script
    again = subst (λ n. read tables (canon (record script { version = n })) ≡ Ok (record script { version = n })) own as_it_was.reads

    pub says_again : AreAnew (quantum_first script.quantum (said tables text)) (said tables (canon script))
    says_again =
        let ss : List Said = said_in (tables old.part.version) old.part in
        let here : AreAnew (moved script.quantum ss) (said tables (canon script)) = subst (λ n. AreAnew (moved script.quantum ss) (said tables (canon (record script { version = n })))) own as_it_was.says in
        subst (λ found. AreAnew (quantum_first script.quantum (said_behind tables found)) (said tables (canon script))) (sym old.begins)
        (subst (λ xs. AreAnew (quantum_said script.quantum ∷ xs) (said tables (canon script))) (without_filter ss) here)

-- as a script of version 2
pub upgraded_again : (text : List ℕ) (script : Script) → read patterns text ≡ Ok script → read patterns (canon (upgraded script)) ≡ Ok (upgraded script)
upgraded_again text script e = again_as patterns the_table Two text script to_two e
