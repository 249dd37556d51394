-- Numbers are read back from their decimal text.
use Rattle.std.proofs.Common.{◌≡◌, ◌≤◌, ◌<◌, ◌^◌, ◌*◌, ◌-◌, ℕ, ◌+◌, List, [], ◌∷◌, length, refl, ◌∙◌, ap, Bool, true, false, arith, rules, suc}
use Rattle.std.proofs.Math.Dec.{eqb-suc-zero}
use Rattle.std.specs.Prelude.{fold, decimal, Some, ◌&&◌, nat_le, ◌==◌}
use Rattle.std.specs.List.{list_all}
use Rattle.std.specs.Int.{IsInRange}
use Rattle.std.proofs.lemmas.Str.Parse.{IsDigitsTest, FoldsDigits, IsNumeralModel, numerals_by_fold}
use Rattle.std.proofs.lemmas.Fmt.{digits_value-decimal, digits_decimal, decimal_nonempty}
use Rattle.script_lex.proofs.Rejoined.{both}
use Rattle.words_script.specs.Names.{is_digit}
use Rattle.script_table.specs.Words.{is_number, value_of, is_register}
use Rattle.words_script.specs.declared.call.Operand.{Operand}
use Rattle.words_script.specs.declared.call.Operand.TheVariants.{Num, Reg}
use Rattle.script_table.specs.Ranges.{is_within}
use Rattle.script_table.specs.Patterns.{greatest}
use Rattle.script_table.specs.Operands.{operand_at}
use Rattle.script_writer.specs.Words.{operand_word}
use Rattle.laws_canonical_text.specs.Laws.{IsInScript}

abbrev AreDigits : List ℕ → Type 0
AreDigits word = list_all is_digit word ≡ true

abbrev value_after : ℕ → List ℕ → ℕ
value_after n word = fold (λ v d. v * 10 + (d - 48)) n word

digit_in_range : (c : ℕ) → is_digit c ≡ true → IsInRange 48 57 c
digit_in_range c e = search rules

range_is_digit : (c : ℕ) → IsInRange 48 57 c → is_digit c ≡ true
range_is_digit c e = search rules

and_true : (a b : Bool) → a ≡ true → b ≡ true → (a && b) ≡ true
and_true a b p q = rw (p, q) refl

digits_test : IsDigitsTest AreDigits
digits_test = record {
  empty = refl;
  parts = λ c cs p. let h = both (is_digit c) (list_all is_digit cs) p in (digit_in_range c h.0, h.1);
  more = λ c cs r p. and_true (is_digit c) (list_all is_digit cs) (range_is_digit c r) p;
}

folds : FoldsDigits value_after
folds = record { empty = λ n. refl; more = λ n c cs r. refl }

numerals : IsNumeralModel AreDigits (value_after 0)
numerals = numerals_by_fold AreDigits digits_test value_after folds

pub value_of-decimal : (n : ℕ) → n < 2 ^ 64 → value_of (decimal n) ≡ n
value_of-decimal n h = digits_value-decimal numerals n h

pub are_digits : (n : ℕ) → n < 2 ^ 64 → list_all is_digit (decimal n) ≡ true
are_digits n h = digits_decimal numerals n h

some_bytes : (word : List ℕ) → 0 < length word → list_all is_digit word ≡ true → is_number word ≡ true
some_bytes [] some e = absurd (omega arith)
some_bytes (c ∷ cs) some e = let no : (suc (length cs) == 0) ≡ false = eqb-suc-zero (length cs) in rw no e

pub is_number-decimal : (n : ℕ) → n < 2 ^ 64 → is_number (decimal n) ≡ true
is_number-decimal n h = some_bytes (decimal n) (decimal_nonempty n h) (are_digits n h)

no_letter : (c : ℕ) → is_digit c ≡ true → (c == 114) ≡ false
no_letter c e = search rules

digits_no_register : (word : List ℕ) → list_all is_digit word ≡ true → is_register word ≡ false
digits_no_register [] e = refl
digits_no_register (c ∷ cs) e = let h = both (is_digit c) (list_all is_digit cs) e in rw (no_letter c h.0) refl

pub is_register-decimal : (n : ℕ) → n < 2 ^ 64 → is_register (decimal n) ≡ false
is_register-decimal n h = digits_no_register (decimal n) (are_digits n h)

within : (low high n : ℕ) → low ≤ n → n ≤ high → (nat_le low n && nat_le n high) ≡ true
within low high n below above = search rules

pub is_within-decimal : (low high n : ℕ) → low ≤ n → n ≤ high → n < 2 ^ 64 → is_within low high (decimal n) ≡ true
is_within-decimal low high n below above h =
    ap (λ v. nat_le low v && nat_le v high) (value_of-decimal n h) ∙ within low high n below above

-- an operand reads back from its word
pub operand_back : (operand : Operand) → IsInScript operand → operand_at 0 (operand_word operand ∷ []) ≡ Some operand
operand_back Reg h = refl
operand_back (Num n) h =
    let small : n < 2 ^ 64 = omega arith in
    rw (is_register-decimal n small, is_within-decimal 0 greatest n (omega arith) h small) (ap (λ v. Some (Num v)) (value_of-decimal n small))
