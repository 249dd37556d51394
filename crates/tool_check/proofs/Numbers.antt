-- Numbers of a trace and their decimal texts.
use Rattle.std.proofs.Common.{◌≡◌, ◌≤◌, ◌<◌, ◌^◌, ◌*◌, ◌-◌, ℕ, zero, suc, ◌+◌, List, [], ◌∷◌, length, get_or, refl, ap, Bool, true, false, not, arith, rules, None, Some}
use Rattle.std.proofs.Math.Dec.{eqb-suc-zero}
use Rattle.std.specs.Prelude.{fold, decimal, ◌&&◌, nat_le, ◌==◌, if◌then◌else◌}
use Rattle.std.specs.List.{list_all}
use Rattle.std.proofs.lemmas.Str.Parse.{IsNumeralModel, numerals_by_fold}
use Rattle.std.proofs.lemmas.Fmt.{digits_value-decimal, digits_decimal, decimal_nonempty, first_decimal, decimal_digit}
use Rattle.words_script.specs.Names.{is_digit}
use Rattle.script_table.specs.Words.{is_number, value_of}
use Rattle.tool_check.specs.Words.{greatest, is_plain, number_of}

pub both : (a b : Bool) → (a && b) ≡ true → (a ≡ true) × (b ≡ true)
both true b e = (refl, e)
both false b e = absurd (let f : false ≡ true = e in cc)

abbrev AreDigits : List ℕ → Type 0
AreDigits word = list_all is_digit word ≡ true

abbrev value_after : ℕ → List ℕ → ℕ
value_after n word = fold (λ v d. v * 10 + (d - 48)) n word

numerals : IsNumeralModel AreDigits (value_after 0)
numerals = numerals_by_fold AreDigits (search rules) value_after (search rules)

pub are_digits : (n : ℕ) → n < 2 ^ 64 → list_all is_digit (decimal n) ≡ true
are_digits n h = digits_decimal numerals n h

some_bytes : (word : List ℕ) → 0 < length word → list_all is_digit word ≡ true → is_number word ≡ true
some_bytes [] some e = absurd (omega arith)
some_bytes (c ∷ cs) some e = let no : (suc (length cs) == 0) ≡ false = eqb-suc-zero (length cs) in rw no e

no_zero : (c : ℕ) → 48 < c → not (c == 48) ≡ true
no_zero c h = search rules

plain_first : (word : List ℕ) → 48 < get_or word 0 0 → is_plain word ≡ true
plain_first [] h = absurd (omega arith)
plain_first (c ∷ []) h = refl
plain_first (c ∷ d ∷ ds) h = no_zero c h

plain-decimal : (n : ℕ) → n < 2 ^ 64 → is_plain (decimal n) ≡ true
plain-decimal zero h = rw (decimal_digit 0 (omega arith)) refl
plain-decimal (suc n) h = plain_first (decimal (suc n)) (first_decimal (suc n) (omega arith) h)

at_most : (v g : ℕ) → v ≤ g → nat_le v g ≡ true
at_most v g h = search rules

taken : (a b c : Bool) (v n : ℕ) → a ≡ true → b ≡ true → c ≡ true → v ≡ n → (if (a && b) && c then Some v else None) ≡ Some n
taken a b c v n p q r is = rw (p, q, r) (ap Some is)

pub number_of-decimal : (n : ℕ) → n ≤ greatest → number_of (decimal n) ≡ Some n
number_of-decimal n h =
    let small : n < 2 ^ 64 = omega arith in
    let value : value_of (decimal n) ≡ n = digits_value-decimal numerals n small in
    taken (is_number (decimal n)) (is_plain (decimal n)) (nat_le (value_of (decimal n)) greatest) (value_of (decimal n)) n
    (some_bytes (decimal n) (decimal_nonempty n small) (are_digits n small))
    (plain-decimal n small)
    (at_most (value_of (decimal n)) greatest (omega arith))
    value
