-- The first word among the first bytes of what is ahead, and the bytes that a line may not have.
use Rattle.std.proofs.Common.{◌≡◌, ◌≤◌, ◌<◌, ℕ, suc, ◌+◌, ◌-◌, List, [], ◌∷◌, length, take, drop, refl, sym, ◌∙◌, ap, ap₂, arith, Bool, true, false, not, cond}
use Rattle.std.specs.Prelude.{nat_lt, ◌&&◌, ◌==◌}
use Rattle.std.proofs.lemmas.Bool.Decides.{nat_tests}
use Rattle.std.specs.List.{prefix_len}
use Rattle.std.proofs.lemmas.List.{drop-take, take-take, drop-drop, length-take-le, length-drop}
use Rattle.script_lex.specs.Words.{words_of, places_of, is_blank, is_allowed, has_bad_byte}
use Rattle.script_lex.proofs.Split.{in_word, word_at, only_blanks, leading_blanks}
use Rattle.script_lex.proofs.Places.{place_at}

behind_blanks : (ahead : List ℕ) (len start : ℕ) → start < len → drop start (take len ahead) ≡ take (len - start) (drop start ahead)
behind_blanks ahead len start some =
    let sum : len ≡ start + (len - start) = omega arith in
    ap (λ n. drop start (take n ahead)) sum ∙ drop-take start (len - start) ahead

word_is : (ahead : List ℕ) (len start k : ℕ) → start < len → k ≤ len - start → take k (drop start (take len ahead)) ≡ take k (drop start ahead)
word_is ahead len start k some within = ap (λ xs. take k xs) (behind_blanks ahead len start some) ∙ take-take k (len - start) (drop start ahead) within

rest_is : (ahead : List ℕ) (len start k : ℕ) → start < len → k ≤ len - start → drop k (drop start (take len ahead)) ≡ take (len - (start + k)) (drop (start + k) ahead)
rest_is ahead len start k some within =
    let sum : len - start ≡ k + (len - (start + k)) = omega arith in
    ap (λ xs. drop k xs) (behind_blanks ahead len start some) ∙ (ap (λ n. drop k (take n (drop start ahead))) sum
    ∙ (drop-take k (len - (start + k)) (drop start ahead) ∙ ap (λ xs. take (len - (start + k)) xs) (drop-drop k start ahead)))

long_is : (ahead : List ℕ) (len start k : ℕ) → start < len → k ≡ prefix_len in_word (take (len - start) (drop start ahead)) → k ≡ prefix_len in_word (drop start (take len ahead))
long_is ahead len start k some long = long ∙ ap (prefix_len in_word) (sym (behind_blanks ahead len start some))

pub first_word : (ahead : List ℕ) (len start k : ℕ) → len ≤ length ahead → start < len → k ≤ len - start → start ≡ prefix_len is_blank (take len ahead) → k ≡ prefix_len in_word (take (len - start) (drop start ahead))
    → words_of (take len ahead) ≡ take k (drop start ahead) ∷ words_of (take (len - (start + k)) (drop (start + k) ahead))
first_word ahead len start k room some within is long =
    let here : start < length (take len ahead) = omega (arith, length-take-le len ahead room) in
    word_at (take len ahead) start k here is (long_is ahead len start k some long)
    ∙ ap₂ (λ w r. w ∷ words_of r) (word_is ahead len start k some within) (rest_is ahead len start k some within)

pub first_place : (ahead : List ℕ) (at len start k : ℕ) → len ≤ length ahead → start < len → k ≤ len - start → start ≡ prefix_len is_blank (take len ahead) → k ≡ prefix_len in_word (take (len - start) (drop start ahead))
    → places_of at (take len ahead) ≡ (at + start) ∷ places_of (at + (start + k)) (take (len - (start + k)) (drop (start + k) ahead))
first_place ahead at len start k room some within is long =
    let whole = length-take-le len ahead room in
    let here : start < length (take len ahead) = omega (arith, whole) in
    let rest = length-drop start (take len ahead) in
    let word : length (take k (drop start (take len ahead))) ≡ k = length-take-le k (drop start (take len ahead)) (omega (arith, whole, rest)) in
    let sum : at + start + length (take k (drop start (take len ahead))) ≡ at + (start + k) = omega (arith, word) in
    place_at at (take len ahead) start k here is (long_is ahead len start k some long)
    ∙ ap₂ (λ n r. (at + start) ∷ places_of n r) sum (rest_is ahead len start k some within)

-- behind the blanks that lead
pub from_first : (ahead : List ℕ) (len start : ℕ) → start ≤ len → start ≡ prefix_len is_blank (take len ahead) → words_of (take (len - start) (drop start ahead)) ≡ words_of (take len ahead)
from_first ahead len start within is =
    let sum : len ≡ start + (len - start) = omega arith in
    let cut : drop start (take len ahead) ≡ take (len - start) (drop start ahead) = ap (λ n. drop start (take n ahead)) sum ∙ drop-take start (len - start) ahead in
    ap words_of (sym cut) ∙ (ap (λ n. words_of (drop n (take len ahead))) is ∙ leading_blanks (take len ahead))

one_or_more : (n : ℕ) → false ≡ (suc n == 0)
one_or_more n = grind (arith, nat_tests)

-- no word where all are blanks, and one where some are not
pub over : (ahead : List ℕ) (len start : ℕ) (all : Bool) → len ≤ length ahead → start ≤ len → start ≡ prefix_len is_blank (take len ahead) → all ≡ (start == len) → all ≡ (length (words_of (take len ahead)) == 0)
over ahead len start true room within is e =
    let whole : start ≡ len = grind (arith, nat_tests, e) in
    let none : words_of (take len ahead) ≡ [] = only_blanks (take len ahead) (omega (arith, length-take-le len ahead room, is, whole)) in
    rw none refl
over ahead len start false room within is e =
    let some : start < len = grind (arith, nat_tests, e) in
    let here : start < length (take len ahead) = omega (arith, length-take-le len ahead room, some) in
    rw (word_at (take len ahead) start _ here is refl) (one_or_more _)

bad_case : (b : Bool) (n l : ℕ) (all : Bool) → nat_lt n l ≡ not all → nat_lt (cond (not (not b)) (1 + n) 0) (suc l) ≡ not (b && all)
bad_case true n l all e = grind (arith, e)
bad_case false n l all e = grind arith

pub bad_byte : (line : List ℕ) → nat_lt (prefix_len (λ c. not (not (is_allowed c))) line) (length line) ≡ has_bad_byte line
bad_byte [] = refl
bad_byte (c ∷ cs) = bad_case (is_allowed c) _ (length cs) _ (bad_byte cs)

pub bad_among : (text : List ℕ) (len : ℕ) → len ≤ length text → nat_lt (prefix_len (λ c. not (not (is_allowed c))) (take len text)) len ≡ has_bad_byte (take len text)
bad_among text len room = ap (nat_lt (prefix_len (λ c. not (not (is_allowed c))) (take len text))) (sym (length-take-le len text room)) ∙ bad_byte (take len text)
