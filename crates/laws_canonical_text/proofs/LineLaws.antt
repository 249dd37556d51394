-- A sound line keeps its pattern.
use Rattle.std.proofs.Common.{◌≡◌, ℕ, List, [], ◌∷◌, refl, ◌∙◌, ap, true, false, None, Some}
use Rattle.std.specs.Prelude.{map, not}
use Rattle.std.specs.List.{list_all}
use Rattle.script_lex.specs.Words.{has_bad_byte, line_words}
use Rattle.script_lex.specs.Joined.{joined_words, is_word}
use Rattle.script_lex.proofs.Rejoined.{both, line_words-joined, has_bad_byte-joined, lines_of-joined}
use Rattle.script_lex.specs.Lines.{lines_of}
use Rattle.script_writer.specs.Canon.{Words, text_of}
use Rattle.script_table.specs.Patterns.{Spot, Row}
use Rattle.script_table.specs.LineFaults.{fits, fitting_row, fitting_some, place_faults, spelling}
use Rattle.script_table.specs.Ranges.{range_fault}
use Rattle.laws_canonical_text.specs.Canonical.{canonical_words}
use Rattle.laws_canonical_text.specs.Apart.{is_bounded}
use Rattle.laws_canonical_text.specs.Laws.{IsSound, KeepsPattern, canonical_line, AreWords, ReadBack}
use Rattle.laws_canonical_text.proofs.Apart.{fitting_again, found_fits, found_passes}
use Rattle.laws_canonical_text.proofs.Kept.{fits_kept, are_clean_kept, words_kept}
use Rattle.laws_canonical_text.proofs.Written.{line_words_are_words}
use Rattle.laws_canonical_text.proofs.Table.{IsTable}

pub some_found : (rows : List Row) (words : List (List ℕ)) (row : Row) → fitting_some rows words ≡ Some row → fitting_row rows words ≡ Some row
some_found rows [] row e = absurd (let f : None ≡ Some row = e in cc)
some_found rows (w ∷ ws) row e = e

-- a line that has a pattern has words
found_some : (rows : List Row) (words others : List (List ℕ)) (spots : List Spot) (row : Row)
    → fitting_some rows words ≡ Some row → fits spots words ≡ true → fitting_row rows (canonical_words spots words) ≡ Some row → fitting_some rows (canonical_words spots words) ≡ Some row
found_some rows [] others spots row e fit again = absurd (let f : None ≡ Some row = e in cc)
found_some rows (w ∷ ws) others [] row e fit again = absurd (let f : false ≡ true = fit in cc)
found_some rows (w ∷ ws) others (s ∷ spots) row e fit again = again

each_line : (lines : List Words) → AreWords lines → map line_words (map joined_words lines) ≡ lines
each_line [] h = refl
each_line (words ∷ lines) h =
    let e = both (list_all is_word words) (list_all (λ x. list_all is_word x) lines) h in
    rw (line_words-joined words e.0) (ap (λ ls. words ∷ ls) (each_line lines e.1))

no_bad_byte : (lines : List Words) → AreWords lines → list_all (λ line. not (has_bad_byte line)) (map joined_words lines) ≡ true
no_bad_byte [] h = refl
no_bad_byte (words ∷ lines) h =
    let e = both (list_all is_word words) (list_all (λ x. list_all is_word x) lines) h in
    rw (has_bad_byte-joined words e.0) (no_bad_byte lines e.1)

pub read_back : (lines : List Words) → AreWords lines → ReadBack lines
read_back lines h =
    let back : lines_of (text_of lines) ≡ map joined_words lines = lines_of-joined lines h in
    record { words = ap (map line_words) back ∙ each_line lines h; bytes = ap (list_all (λ line. not (has_bad_byte line))) back ∙ no_bad_byte lines h }

module _ (rows : List Row) (table : IsTable rows) where
  pub keeps_pattern : (row : Row) (line : List ℕ) → IsSound rows row line → KeepsPattern rows row line
  keeps_pattern row line h =
      let words : List (List ℕ) = line_words line in
      let canonical : List (List ℕ) = canonical_words row.places words in
      let found = some_found rows words row h.pattern in
      let bounded : list_all is_bounded row.places ≡ true = found_passes (λ r. fits r.places words) (λ r. list_all is_bounded r.places) rows row found table.bounded in
      let clean = are_clean_kept row.places words bounded (record { spelled = h.spelled; ranged = h.ranged }) in
      let written : list_all is_word canonical ≡ true = words_kept row.places words bounded (record { spelled = h.spelled; ranged = h.ranged }) (line_words_are_words line h.bytes) in
      let back : line_words (canonical_line row line) ≡ canonical = line_words-joined canonical written in
      let fit = found_fits rows words row found in
      let again : fitting_row rows canonical ≡ Some row = fitting_again rows words canonical row table.apart found (fits_kept row.places words fit) in
      record {
        sound = record {
          pattern = ap (fitting_some rows) back ∙ found_some rows words words row.places row h.pattern fit again;
          bytes = has_bad_byte-joined canonical written;
          spelled = ap (place_faults spelling row.places) back ∙ clean.spelled;
          ranged = ap (place_faults range_fault row.places) back ∙ clean.ranged;
        };
        words = back;
      }
