-- Signals are read back from their words.
use Rattle.std.proofs.Common.{◌≡◌, ◌<◌, ℕ, zero, suc, ◌+◌, List, [], ◌∷◌, length, get_or, refl, ◌∙◌, ap, subst, Bool, true, false, not, arith, Option, None, Some, eqb-true}
use Rattle.std.specs.Prelude.{◌&&◌, ◌==◌}
use Rattle.std.specs.Fmt.{digits}
use Rattle.std.specs.List.{list_all, range_with_len}
use Rattle.std.proofs.lemmas.List.FromFn.{get_or-range_with_len, length-range_with_len}
use Rattle.script_lex.proofs.Rejoined.{both}
use Rattle.script_lex.specs.Joined.{is_word_byte}
use Rattle.script_table.specs.Words.{signal_of}
use Rattle.words_numbers.specs.Words.{signal_word}

abbrev is_it : ℕ → Option ℕ → Bool
is_it k None = false
is_it k (Some j) = j == k

abbrev is_no_comma : ℕ → Bool
is_no_comma c = not (c == 44)

abbrev reads : ℕ → Bool
reads k = is_it k (signal_of (signal_word k)) && list_all is_no_comma (signal_word k)

each_reads : list_all reads (range_with_len 0 32) ≡ true
unfolding digits
each_reads = refl

pub all_at : (p : ℕ → Bool) (xs : List ℕ) (i d : ℕ) → i < length xs → list_all p xs ≡ true → p (get_or xs i d) ≡ true
all_at p [] i d h e = absurd (omega arith)
all_at p (x ∷ xs) zero d h e = (both (p x) (list_all p xs) e).0
all_at p (x ∷ xs) (suc i) d h e = all_at p xs i d (omega arith) (both (p x) (list_all p xs) e).1

reads_at : (k : ℕ) → k < 32 → reads k ≡ true
reads_at k h =
    let same : get_or (range_with_len 0 32) k 0 ≡ 0 + k = get_or-range_with_len 0 32 k 0 h in
    let number : 0 + k ≡ k = omega arith in
    let room : k < length (range_with_len 0 32) = omega (arith, length-range_with_len 0 32) in
    subst (λ j. reads j ≡ true) (same ∙ number) (all_at reads (range_with_len 0 32) k 0 room each_reads)

it_is : (k : ℕ) (found : Option ℕ) → is_it k found ≡ true → found ≡ Some k
it_is k None e = absurd (let f : false ≡ true = e in cc)
it_is k (Some j) e = ap Some (eqb-true j k e)

pub signal_of-signal_word : (k : ℕ) → k < 32 → signal_of (signal_word k) ≡ Some k
signal_of-signal_word k h =
    it_is k (signal_of (signal_word k)) (both (is_it k (signal_of (signal_word k))) (list_all is_no_comma (signal_word k)) (reads_at k h)).0

pub no_comma : (k : ℕ) → k < 32 → list_all (λ c. not (c == 44)) (signal_word k) ≡ true
no_comma k h = (both (is_it k (signal_of (signal_word k))) (list_all is_no_comma (signal_word k)) (reads_at k h)).1

abbrev is_bytes : ℕ → Bool
is_bytes k = list_all is_word_byte (signal_word k)

each_is_bytes : list_all is_bytes (range_with_len 0 32) ≡ true
unfolding digits
each_is_bytes = refl

pub word_bytes : (k : ℕ) → k < 32 → list_all is_word_byte (signal_word k) ≡ true
word_bytes k h =
    let same : get_or (range_with_len 0 32) k 0 ≡ 0 + k = get_or-range_with_len 0 32 k 0 h in
    let number : 0 + k ≡ k = omega arith in
    let room : k < length (range_with_len 0 32) = omega (arith, length-range_with_len 0 32) in
    subst (λ j. is_bytes j ≡ true) (same ∙ number) (all_at is_bytes (range_with_len 0 32) k 0 room each_is_bytes)
