-- A number that blanks lead, and nothing follows, is the only word.
use Rattle.std.proofs.Common.{◌≡◌, ℕ, List, [], ◌∷◌, Bool, true, false, not, None, refl, sym, ◌∙◌, arith}
use Rattle.std.specs.Prelude.{◌==◌, ◌&&◌, length}
use Rattle.std.specs.List.{list_all}
use Rattle.std.proofs.lemmas.Bool.Decides.{nat_tests}
use Rattle.script_lex.specs.Words.{words_of}
use Rattle.script_lex.proofs.Split.{in_word, one_word}
use Rattle.words_script.specs.Names.{is_digit}
use Rattle.script_table.specs.Words.{is_number}
use Rattle.script_table.specs.Faults.{least_kind}
use Rattle.script_table.specs.Patterns.{Spot, Number}
use Rattle.script_table.specs.LineFaults.{fits, place_faults, spelling}
use Rattle.script_table.specs.Ranges.{is_within, range_fault}

digit_in_word : (c : ℕ) → is_digit c ≡ true → in_word c ≡ true
digit_in_word c e = grind (arith, nat_tests)

both : (a b c d : Bool) → (a ≡ true → c ≡ true) → (b ≡ true → d ≡ true) → (a && b) ≡ true → (c && d) ≡ true
both true b c d here later e = let h = here refl in rw h (later e)
both false b c d here later e = cc

later : (a b : Bool) → (a && b) ≡ true → b ≡ true
later true b e = e
later false b e = cc

digits_in_word : (word : List ℕ) → list_all is_digit word ≡ true → list_all in_word word ≡ true
digits_in_word [] e = refl
digits_in_word (c ∷ cs) e = both (is_digit c) (list_all is_digit cs) (in_word c) (list_all in_word cs) (digit_in_word c) (digits_in_word cs) e

pub number_alone : (word : List ℕ) → is_number word ≡ true → words_of word ≡ word ∷ []
number_alone [] e = cc
number_alone (c ∷ cs) e = one_word c cs (digits_in_word (c ∷ cs) (later (not (length (c ∷ cs) == 0)) (list_all is_digit (c ∷ cs)) e))

-- it is right where its place wants a number of that range
pub alone_right : (spot : Spot) (low high : ℕ) (word : List ℕ) (words : List (List ℕ)) → spot ≡ Number low high → words_of word ≡ words → (is_number word ≡ true) × (is_within low high word ≡ true) →
    (fits (spot ∷ []) words ≡ true) × (least_kind (place_faults spelling (spot ∷ []) words) ≡ None) × (least_kind (place_faults range_fault (spot ∷ []) words) ≡ None)
alone_right spot low high word words is_spot is_words right =
    let only : words ≡ word ∷ [] = sym is_words ∙ number_alone word right.0 in
    rw (is_spot, only, right.0, right.1) (refl, refl, refl)
