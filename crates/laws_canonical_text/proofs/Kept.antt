-- The canonical words of a line keep its pattern, and have no fault where the line has none.
use Rattle.std.proofs.Common.{◌≡◌, ◌≤◌, ◌<◌, ◌^◌, ℕ, zero, suc, List, [], ◌∷◌, ◌++◌, refl, Bool, true, false, arith, rules, Option, None, Some}
use Rattle.std.specs.Prelude.{◌&&◌, ◌||◌, nat_le, is_some, decimal, unwrap_or, option_to_list, if◌then◌else◌}
use Rattle.std.specs.List.{list_all}
use Rattle.script_lex.proofs.Rejoined.{both}
use Rattle.script_table.specs.declared.faults.FaultKind.{FaultKind}
use Rattle.script_table.specs.declared.faults.FaultKind.TheVariants.{NumberRange, BadName}
use Rattle.script_table.specs.Patterns.{Spot, Keyword, Answer, Number, Operand, Declares, Uses, Signal, Acts, Signals, Row, greatest}
use Rattle.script_table.specs.Words.{value_of, is_register, set_of}
use Rattle.script_table.specs.LineFaults.{stands, fits, place_faults, unless, spelling}
use Rattle.script_table.specs.Ranges.{is_within, range_fault, word, sets_server, server_faults}
use Rattle.script_writer.specs.Words.{set_word}
use Rattle.laws_canonical_text.specs.Canonical.{canonical_word, canonical_words}
use Rattle.laws_canonical_text.specs.Apart.{is_bounded, number_at, has_parameters}
use Rattle.laws_canonical_text.proofs.Decimals.{value_of-decimal, are_digits, is_number-decimal, is_register-decimal, is_within-decimal}
use Rattle.script_lex.specs.Joined.{is_word}
use Rattle.std.proofs.lemmas.Fmt.{decimal_nonempty}
use Rattle.laws_canonical_text.proofs.Sets.{set_of-set_word, is_word-set_word}
use Rattle.laws_canonical_text.proofs.Written.{digits_are_word}
use Rattle.laws_canonical_text.proofs.Bounds.{set_of-small}

pub stands_kept : (spot : Spot) (word : List ℕ) → stands spot word ≡ true → stands spot (canonical_word spot word) ≡ true
stands_kept (Keyword k) word e = e
stands_kept Answer word e = e
stands_kept (Number low high) word e = refl
stands_kept Operand word e = refl
stands_kept (Declares kind) word e = refl
stands_kept (Uses kind) word e = refl
stands_kept Signal word e = refl
stands_kept Acts word e = refl
stands_kept Signals word e = refl

pub fits_kept : (spots : List Spot) (words : List (List ℕ)) → fits spots words ≡ true → fits spots (canonical_words spots words) ≡ true
fits_kept [] [] e = refl
fits_kept [] (word ∷ words) e = absurd (let f : false ≡ true = e in cc)
fits_kept (spot ∷ spots) [] e = absurd (let f : false ≡ true = e in cc)
fits_kept (spot ∷ spots) (word ∷ words) e =
    let h = both (stands spot word) (fits spots words) e in
    rw (stands_kept spot word h.0, fits_kept spots words h.1) refl

pub holds : (b : Bool) (kind : FaultKind) → unless b kind ≡ None → b ≡ true
holds true kind e = refl
holds false kind e = absurd (let f : Some kind ≡ None = e in cc)

pub within_parts : (low high word_value : ℕ) → (nat_le low word_value && nat_le word_value high) ≡ true → (low ≤ word_value) × (word_value ≤ high)
within_parts low high n e = let h = both (nat_le low n) (nat_le n high) e in (search rules, search rules)

-- no fault of spelling or range
pub record IsClean (spot : Spot) (word : List ℕ) : Type 0 where
  pub spelled : spelling spot word ≡ None
  pub ranged : range_fault spot word ≡ None

number_clean : (low high n : ℕ) → high ≤ greatest → low ≤ n → n ≤ high → IsClean (Number low high) (decimal n)
number_clean low high n top below above =
    let small : n < 2 ^ 64 = omega arith in
    record {
      spelled = rw (is_number-decimal n small) refl;
      ranged = rw (is_within-decimal low high n below above small) refl;
    }

operand_clean : (n : ℕ) → n ≤ greatest → IsClean Operand (decimal n)
operand_clean n above =
    let small : n < 2 ^ 64 = omega arith in
    record {
      spelled = rw (is_number-decimal n small) refl;
      ranged = rw (is_register-decimal n small, is_within-decimal 0 greatest n (omega arith) above small) refl;
    }

operand_case : (b : Bool) (word : List ℕ) → is_register word ≡ b → IsClean Operand word → IsClean Operand (if b then word else decimal (value_of word))
operand_case true word is clean = clean
operand_case false word is clean =
    let within : is_within 0 greatest word ≡ true = (let h = holds (is_register word || is_within 0 greatest word) NumberRange clean.ranged in rw is at h) in
    operand_clean (value_of word) (within_parts 0 greatest (value_of word) within).1

set_clean : (found : Option ℕ) (word : List ℕ) → set_of word ≡ found → is_some found ≡ true → IsClean Signals (set_word (unwrap_or found 0))
set_clean None word is some = absurd (let f : false ≡ true = some in cc)
set_clean (Some set) word is some = record { spelled = rw (set_of-set_word set (set_of-small word set is)) refl; ranged = refl }

pub clean_kept : (spot : Spot) (word : List ℕ) → is_bounded spot ≡ true → IsClean spot word → IsClean spot (canonical_word spot word)
clean_kept (Keyword k) word bound clean = clean
clean_kept Answer word bound clean = clean
clean_kept (Number low high) word bound clean =
    let h = within_parts low high (value_of word) (holds (is_within low high word) NumberRange clean.ranged) in
    let top : high ≤ greatest = search rules in
    number_clean low high (value_of word) top h.0 h.1
clean_kept Operand word bound clean = operand_case (is_register word) word refl clean
clean_kept (Declares kind) word bound clean = clean
clean_kept (Uses kind) word bound clean = clean
clean_kept Signal word bound clean = clean
clean_kept Acts word bound clean = clean
clean_kept Signals word bound clean = set_clean (set_of word) word refl (holds (is_some (set_of word)) BadName clean.spelled)

pub none_first : (found : Option FaultKind) (rest : List FaultKind) → option_to_list found ++ rest ≡ [] → (found ≡ None) × (rest ≡ [])
none_first None rest e = (refl, e)
none_first (Some kind) rest e = absurd (let f : (kind ∷ rest) ≡ [] = e in cc)

-- the words at the places have no fault of spelling or range
pub record AreClean (spots : List Spot) (words : List (List ℕ)) : Type 0 where
  pub spelled : place_faults spelling spots words ≡ []
  pub ranged : place_faults range_fault spots words ≡ []

pub are_clean_kept : (spots : List Spot) (words : List (List ℕ)) → list_all is_bounded spots ≡ true → AreClean spots words → AreClean spots (canonical_words spots words)
are_clean_kept [] words bound clean = record { spelled = refl; ranged = refl }
are_clean_kept (spot ∷ spots) [] bound clean = record { spelled = refl; ranged = refl }
are_clean_kept (spot ∷ spots) (word ∷ words) bound clean =
    let b = both (is_bounded spot) (list_all is_bounded spots) bound in
    let s = none_first (spelling spot word) (place_faults spelling spots words) clean.spelled in
    let r = none_first (range_fault spot word) (place_faults range_fault spots words) clean.ranged in
    let one = clean_kept spot word b.0 (record { spelled = s.0; ranged = r.0 }) in
    let rest = are_clean_kept spots words b.1 (record { spelled = s.1; ranged = r.1 }) in
    record { spelled = rw (one.spelled, rest.spelled) refl; ranged = rw (one.ranged, rest.ranged) refl }

pub decimal_word : (n : ℕ) → n < 2 ^ 64 → is_word (decimal n) ≡ true
decimal_word n h = digits_are_word (decimal n) (decimal_nonempty n h) (are_digits n h)

operand_word_case : (b : Bool) (word : List ℕ) → is_register word ≡ b → IsClean Operand word → is_word word ≡ true → is_word (if b then word else decimal (value_of word)) ≡ true
operand_word_case true word is clean e = e
operand_word_case false word is clean e =
    let within : is_within 0 greatest word ≡ true = (let h = holds (is_register word || is_within 0 greatest word) NumberRange clean.ranged in rw is at h) in
    let above = (within_parts 0 greatest (value_of word) within).1 in
    decimal_word (value_of word) (omega arith)

set_word_case : (found : Option ℕ) (word : List ℕ) → set_of word ≡ found → is_some found ≡ true → is_word (set_word (unwrap_or found 0)) ≡ true
set_word_case None word is some = absurd (let f : false ≡ true = some in cc)
set_word_case (Some set) word is some = is_word-set_word set (set_of-small word set is)

word_kept : (spot : Spot) (word : List ℕ) → is_bounded spot ≡ true → IsClean spot word → is_word word ≡ true → is_word (canonical_word spot word) ≡ true
word_kept (Keyword k) word bound clean e = e
word_kept Answer word bound clean e = e
word_kept (Number low high) word bound clean e =
    let h = within_parts low high (value_of word) (holds (is_within low high word) NumberRange clean.ranged) in
    let top : high ≤ greatest = search rules in
    let above = h.1 in
    decimal_word (value_of word) (omega arith)
word_kept Operand word bound clean e = operand_word_case (is_register word) word refl clean e
word_kept (Declares kind) word bound clean e = e
word_kept (Uses kind) word bound clean e = e
word_kept Signal word bound clean e = e
word_kept Acts word bound clean e = e
word_kept Signals word bound clean e = set_word_case (set_of word) word refl (holds (is_some (set_of word)) BadName clean.spelled)

pub words_kept : (spots : List Spot) (words : List (List ℕ)) → list_all is_bounded spots ≡ true → AreClean spots words → list_all is_word words ≡ true → list_all is_word (canonical_words spots words) ≡ true
words_kept [] words bound clean e = refl
words_kept (spot ∷ spots) [] bound clean e = refl
words_kept (spot ∷ spots) (word ∷ words) bound clean e =
    let b = both (is_bounded spot) (list_all is_bounded spots) bound in
    let w = both (is_word word) (list_all is_word words) e in
    let s = none_first (spelling spot word) (place_faults spelling spots words) clean.spelled in
    let r = none_first (range_fault spot word) (place_faults range_fault spots words) clean.ranged in
    let one = word_kept spot word b.0 (record { spelled = s.0; ranged = r.0 }) w.0 in
    let rest = words_kept spots words b.1 (record { spelled = s.1; ranged = r.1 }) w.1 in
    rw (one, rest) refl

-- the value of a number is kept
pub value_kept : (k : ℕ) (spots : List Spot) (words : List (List ℕ)) → number_at k spots ≡ true → list_all is_bounded spots ≡ true → AreClean spots words
    → value_of (word k (canonical_words spots words)) ≡ value_of (word k words)
value_kept k [] words at bound clean = absurd (let f : false ≡ true = at in cc)
value_kept k (spot ∷ spots) [] at bound clean = refl
value_kept zero (Number low high ∷ spots) (w ∷ words) at bound clean =
    let b = both (nat_le high greatest) (list_all is_bounded spots) bound in
    let r = none_first (range_fault (Number low high) w) (place_faults range_fault spots words) clean.ranged in
    let h = within_parts low high (value_of w) (holds (is_within low high w) NumberRange r.0) in
    let top : high ≤ greatest = search rules in
    let above = h.1 in
    value_of-decimal (value_of w) (omega arith)
value_kept zero (Keyword k ∷ spots) words at bound clean = absurd (let f : false ≡ true = at in cc)
value_kept zero (Answer ∷ spots) words at bound clean = absurd (let f : false ≡ true = at in cc)
value_kept zero (Operand ∷ spots) words at bound clean = absurd (let f : false ≡ true = at in cc)
value_kept zero (Declares kind ∷ spots) words at bound clean = absurd (let f : false ≡ true = at in cc)
value_kept zero (Uses kind ∷ spots) words at bound clean = absurd (let f : false ≡ true = at in cc)
value_kept zero (Signal ∷ spots) words at bound clean = absurd (let f : false ≡ true = at in cc)
value_kept zero (Acts ∷ spots) words at bound clean = absurd (let f : false ≡ true = at in cc)
value_kept zero (Signals ∷ spots) words at bound clean = absurd (let f : false ≡ true = at in cc)
value_kept (suc k) (spot ∷ spots) (w ∷ words) at bound clean =
    let b = both (is_bounded spot) (list_all is_bounded spots) bound in
    let s = none_first (spelling spot w) (place_faults spelling spots words) clean.spelled in
    let r = none_first (range_fault spot w) (place_faults range_fault spots words) clean.ranged in
    value_kept k spots words at b.1 (record { spelled = s.1; ranged = r.1 })

-- the faults of a sporadic server are kept
server_case : (b : Bool) (row : Row) (words : List (List ℕ)) → sets_server row.form ≡ b → has_parameters row ≡ true → list_all is_bounded row.places ≡ true → AreClean row.places words
    → server_faults row.form (canonical_words row.places words) ≡ server_faults row.form words
server_case false row words is has bound clean = rw is refl
server_case true row words is has bound clean =
    let places = row.places in
    let all : (number_at 3 places && (number_at 4 places && (number_at 5 places && (number_at 6 places && number_at 7 places)))) ≡ true = rw is at has in
    let a = both (number_at 3 places) (number_at 4 places && (number_at 5 places && (number_at 6 places && number_at 7 places))) all in
    let b = both (number_at 4 places) (number_at 5 places && (number_at 6 places && number_at 7 places)) a.1 in
    let c = both (number_at 5 places) (number_at 6 places && number_at 7 places) b.1 in
    let d = both (number_at 6 places) (number_at 7 places) c.1 in
    let high = value_kept 3 places words a.0 bound clean in
    let low = value_kept 4 places words b.0 bound clean in
    let period = value_kept 5 places words c.0 bound clean in
    let budget = value_kept 6 places words d.0 bound clean in
    let max = value_kept 7 places words d.1 bound clean in
    simp (high, low, period, budget, max)

pub server_kept : (row : Row) (words : List (List ℕ)) → has_parameters row ≡ true → list_all is_bounded row.places ≡ true → AreClean row.places words
    → server_faults row.form (canonical_words row.places words) ≡ server_faults row.form words
server_kept row words has bound clean = server_case (sets_server row.form) row words refl has bound clean
