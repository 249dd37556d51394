-- Words without faults of their own say the same as their canonical words.
use Rattle.std.proofs.Common.{◌≡◌, ◌≤◌, ℕ, List, [], ◌∷◌, refl, sym, subst, ◌∙◌, Bool, true, false, Option, None, Some, arith, rules}
use Rattle.std.specs.Prelude.{decimal, is_some, ◌||◌, if◌then◌else◌, unwrap_or}
use Rattle.std.specs.List.{list_all}
use Rattle.script_lex.proofs.Rejoined.{both}
use Rattle.words_script.specs.declared.call.Operand.TheVariants.{Num}
use Rattle.script_table.specs.declared.faults.FaultKind.TheVariants.{NumberRange, BadName}
use Rattle.script_table.specs.declared.form.Form.{Form}
use Rattle.words_script.specs.declared.name_kind.NameKind.{NameKind}
use Rattle.script_table.specs.Patterns.{Spot, Keyword, Answer, Number, Operand, Declares, Uses, Signal, Acts, Signals, greatest}
use Rattle.script_table.specs.Words.{value_of, set_of, is_register}
use Rattle.script_table.specs.LineFaults.{fits, spelling, place_faults}
use Rattle.script_table.specs.Ranges.{range_fault, is_within}
use Rattle.script_table.specs.Names.{Entry, entry_of}
use Rattle.script_table.specs.Operands.{operand_at, number_of_kind}
use Rattle.script_writer.specs.Words.{set_word}
use Rattle.laws_canonical_text.specs.Apart.{is_bounded}
use Rattle.laws_canonical_text.proofs.Bounds.{set_of-small}
use Rattle.laws_canonical_text.proofs.Decimals.{value_of-decimal, operand_back}
use Rattle.laws_canonical_text.proofs.Sets.{set_of-set_word}
use Rattle.laws_canonical_text.proofs.Kept.{IsClean, AreClean, holds, none_first, within_parts}
use Rattle.laws_canonical_text.proofs.Forms.{places_of}
use Rattle.laws_canonical_text.proofs.Shape.{padded, padded-fits, Holds}
use Rattle.laws_canonical_text.proofs.Sameness.{Same}

-- each place of a line with its word, where no word has a fault of its own
pub each_place : (P : Spot → List ℕ → Type 0) → ((spot : Spot) (word : List ℕ) → is_bounded spot ≡ true → IsClean spot word → P spot word)
    → (spots : List Spot) (words : List (List ℕ)) → fits spots words ≡ true → list_all is_bounded spots ≡ true → AreClean spots words → Holds P spots words
each_place P one [] words fit bound clean = tt
each_place P one (spot ∷ spots) [] fit bound clean = absurd (let f : false ≡ true = fit in cc)
each_place P one (spot ∷ spots) (word ∷ words) fit bound clean =
    let b = both (is_bounded spot) (list_all is_bounded spots) bound in
    let s = none_first (spelling spot word) (place_faults spelling spots words) clean.spelled in
    let r = none_first (range_fault spot word) (place_faults range_fault spots words) clean.ranged in
    (one spot word b.0 (record { spelled = s.0; ranged = r.0 }), each_place P one spots words (both _ (fits spots words) fit).1 b.1 (record { spelled = s.1; ranged = r.1 }))

-- a number that is in range
pub number_small : (low high : ℕ) (word : List ℕ) → is_bounded (Number low high) ≡ true → IsClean (Number low high) word → value_of word ≤ greatest
number_small low high word bound clean =
    let h = within_parts low high (value_of word) (holds (is_within low high word) NumberRange clean.ranged) in
    let top : high ≤ greatest = search rules in
    let above = h.1 in
    omega arith

operand_case : (b : Bool) (word : List ℕ) → is_register word ≡ b → IsClean Operand word
    → operand_at 0 ((if b then word else decimal (value_of word)) ∷ []) ≡ operand_at 0 (word ∷ [])
operand_case true word is clean = refl
operand_case false word is clean =
    let within : is_within 0 greatest word ≡ true = (let h = holds (is_register word || is_within 0 greatest word) NumberRange clean.ranged in rw is at h) in
    let above = (within_parts 0 greatest (value_of word) within).1 in
    let old : operand_at 0 (word ∷ []) ≡ Some (Num (value_of word)) = rw (is, within) refl in
    operand_back (Num (value_of word)) above ∙ sym old

set_case : (found : Option ℕ) (word : List ℕ) → set_of word ≡ found → is_some found ≡ true → set_of (set_word (unwrap_or found 0)) ≡ found
set_case None word is some = absurd (let f : false ≡ true = some in cc)
set_case (Some set) word is some = set_of-set_word set (set_of-small word set is)

-- the names of the two texts give the same numbers
abbrev pub SameNumbers : List Entry → List Entry → Type 0
SameNumbers es xs = (kind : NameKind) (word : List ℕ) → number_of_kind kind (entry_of xs word) ≡ number_of_kind kind (entry_of es word)

pub same_place : (es xs : List Entry) → SameNumbers es xs → (spot : Spot) (word : List ℕ) → is_bounded spot ≡ true → IsClean spot word → Same es xs spot word
same_place es xs names (Keyword k) word bound clean = tt
same_place es xs names Answer word bound clean = tt
same_place es xs names (Number low high) word bound clean = let small = number_small low high word bound clean in value_of-decimal (value_of word) (omega arith)
same_place es xs names Operand word bound clean = operand_case (is_register word) word refl clean
same_place es xs names (Declares kind) word bound clean = tt
same_place es xs names (Uses kind) word bound clean = names kind word
same_place es xs names Signal word bound clean = tt
same_place es xs names Acts word bound clean = tt
same_place es xs names Signals word bound clean = set_case (set_of word) word refl (holds (is_some (set_of word)) BadName clean.spelled)

-- words that fit a form, without faults of their own
pub record Sound (f : Form) (words : List (List ℕ)) : Type 0 where
  pub bounded : list_all is_bounded (places_of f) ≡ true
  pub fit : fits (places_of f) words ≡ true
  pub clean : AreClean (places_of f) words

pub same_places : (es xs : List Entry) → SameNumbers es xs → (f : Form) (words : List (List ℕ)) → Sound f words → Holds (Same es xs) (places_of f) words
same_places es xs names f words sound = each_place (Same es xs) (same_place es xs names) (places_of f) words sound.fit sound.bounded sound.clean

-- what is so of words that are made of one for each place
pub of_padded : (P : List (List ℕ) → Type 0) (f : Form) (words : List (List ℕ)) → Sound f words → P (padded (places_of f) words) → P words
of_padded P f words sound p = subst P (padded-fits (places_of f) words sound.fit) p
