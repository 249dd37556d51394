use Rattle.std.proofs.Common.{◌≡◌, ◌+◌, ◌*◌, ◌-◌, ◌<◌, ℕ, true, false, List, length, get_or, refl, sym, ap, ◌∙◌, arith}
use Rattle.std.specs.Prelude.{◌==◌}
use Rattle.std.specs.List.{list_all}
use Rattle.std.proofs.lemmas.Bool.Decides.{nat_tests}
use Rattle.std.proofs.lemmas.List.{take_all}
use Rattle.std.proofs.lemmas.List.Folds.{list_all_more}
use Rattle.std.proofs.lemmas.List.Sums.{fold_more}
use Rattle.words_script.specs.Names.{is_digit}
use Rattle.script_table.specs.Words.{is_number}
use Rattle.script_table.proofs.words.short_number.Goals as goal

small : (c : ℕ) → is_digit c ≡ true → c - 48 < 10
small c digit = grind (arith, nat_tests)

number : (word : List ℕ) → (length word == 0) ≡ false → list_all is_digit word ≡ true → is_number word ≡ true
number word some digits = rw (some, digits) refl

pub loop-c-preserved : goal.loop-c-preserved
loop-c-preserved c =
    let word = c.args.word.now in let at = c.loop-c.c-index in
    let digit = sym c.if-not-is_digit.ensures in
    record {
      value = ap (λ (v : ℕ). v * 10 + (get_or word at 0 - 48)) c.loop-c.invariant.value ∙ sym (fold_more (λ (v d : ℕ). v * 10 + (d - 48)) 0 word at 0 c.loop-c-test.true);
      digits = rw (list_all_more is_digit word at 0 c.loop-c-test.true, c.loop-c.invariant.digits) digit;
      bound = omega (arith, small (get_or word at 0) digit);
    }

pub returns : goal.returns
returns c =
    let word = c.args.word.now in let at = c.loop-c.c-index in
    let whole = take_all at word c.loop-c-test.false in
    (number word (sym c.if-is_empty.ensures) (rw whole at c.loop-c.invariant.digits), rw whole at c.loop-c.invariant.value)
