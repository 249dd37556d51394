-- Sets of signals are read back from their words.
use Rattle.std.proofs.Common.{◌≡◌, ◌≤◌, ◌<◌, ◌^◌, ◌*◌, ◌/◌, ◌%◌, ℕ, zero, suc, ◌+◌, List, [], ◌∷◌, ◌++◌, refl, sym, ◌∙◌, ap, subst, Bool, true, false, not, arith, rules, Option, None, Some, eqb-true, eq-eqb, append-nil}
use Rattle.std.specs.Prelude.{map, ◌==◌, bit_or}
use Rattle.std.specs.List.{list_all}
use Rattle.std.specs.Int.Bits.{or_shifted_r}
use Rattle.std.proofs.lemmas.List.{map_push}
use Rattle.std.proofs.Math.Pow.{mod-pow-add}
use Rattle.std.proofs.lemmas.List.Folds.{list_all-append}
use Rattle.script_lex.proofs.Rejoined.{both}
use Rattle.words_numbers.specs.Signals.{every_signal, has_signal, with_signal}
use Rattle.script_table.specs.Words.{signal_of, onto_part, parts_of, with_part, with_parts, set_of}
use Rattle.script_writer.specs.Words.{signals_of, after_commas, joined_by_commas, set_word}
use Rattle.words_numbers.specs.Words.{signal_word}
use Rattle.script_writer.proofs.Signals.{signals_below, below_with, below_without}
use Rattle.laws_canonical_text.proofs.Signals.{signal_of-signal_word, no_comma, word_bytes}
use Rattle.script_lex.specs.Joined.{is_word_byte, is_word}

-- words without commas
abbrev is_part : List ℕ → Bool
is_part word = list_all (λ c. not (c == 44)) word

at_comma : (b : Bool) → not b ≡ true → b ≡ false
at_comma true e = absurd (let f : false ≡ true = e in cc)
at_comma false e = refl

part_alone : (w : List ℕ) → is_part w ≡ true → parts_of w ≡ w ∷ []
part_alone [] e = refl
part_alone (c ∷ cs) e =
    let h = both (not (c == 44)) (is_part cs) e in
    rw (at_comma (c == 44) h.0) (ap (onto_part c) (part_alone cs h.1))

part_then : (w rest : List ℕ) → is_part w ≡ true → parts_of (w ++ 44 ∷ rest) ≡ w ∷ parts_of rest
part_then [] rest e = refl
part_then (c ∷ cs) rest e =
    let h = both (not (c == 44)) (is_part cs) e in
    rw (at_comma (c == 44) h.0) (ap (onto_part c) (part_then cs rest h.1))

parts_back : (w : List ℕ) (ws : List (List ℕ)) → is_part w ≡ true → list_all is_part ws ≡ true → parts_of (w ++ after_commas ws) ≡ w ∷ ws
parts_back w [] e es = ap parts_of (append-nil w) ∙ part_alone w e
parts_back w (v ∷ ws) e es =
    let h = both (is_part v) (list_all is_part ws) es in
    part_then w (v ++ after_commas ws) e ∙ ap (λ ps. w ∷ ps) (parts_back v ws h.0 h.1)

-- one more part
part_more : (found : Option ℕ) (set total k : ℕ) (rest : ℕ → Option ℕ) (longer : ℕ → Option ℕ)
    → ((s : ℕ) → rest s ≡ Some total → longer s ≡ Some (with_signal total k))
    → with_part set found rest ≡ Some total → with_part set found longer ≡ Some (with_signal total k)
part_more None set total k rest longer step e = absurd (let f : None ≡ Some total = e in cc)
part_more (Some j) set total k rest longer step e = step (with_signal set j) e

parts_more : (ps : List (List ℕ)) (p : List ℕ) (set total k : ℕ) → signal_of p ≡ Some k → with_parts set ps ≡ Some total → with_parts set (ps ++ p ∷ []) ≡ Some (with_signal total k)
parts_more [] p set total k is e =
    let same : set ≡ total = cc in
    rw is (ap (λ s. Some (with_signal s k)) same)
parts_more (q ∷ ps) p set total k is e =
    part_more (signal_of q) set total k (λ s. with_parts s ps) (λ s. with_parts s (ps ++ p ∷ [])) (λ s h. parts_more ps p s total k is h) e

-- the low bits of a set, one at a time
bit_in : (set k : ℕ) → has_signal set k ≡ true → with_signal (set % 2 ^ k) k ≡ set % 2 ^ (k + 1)
bit_in set k has =
    let bit : set / 2 ^ k % 2 ≡ 1 = eqb-true (set / 2 ^ k % 2) 1 has in
    let one : 2 ^ k ≡ 1 * 2 ^ k = omega arith in
    let sum : bit_or (set % 2 ^ k) (1 * 2 ^ k) ≡ 1 * 2 ^ k + set % 2 ^ k = or_shifted_r 1 k (set % 2 ^ k) (search rules) in
    let turned : k + 1 ≡ 1 + k = omega arith in
    ap (bit_or (set % 2 ^ k)) one ∙ sum ∙ ap (λ b. b * 2 ^ k + set % 2 ^ k) (sym bit) ∙ sym (mod-pow-add set 1 k) ∙ ap (λ j. set % 2 ^ j) (sym turned)

bit_zero : (b : ℕ) → b < 2 → (b == 1) ≡ false → b ≡ 0
bit_zero b h e = grind (arith, eq-eqb)

bit_out : (set k : ℕ) → has_signal set k ≡ false → set % 2 ^ k ≡ set % 2 ^ (k + 1)
bit_out set k has =
    let bit : set / 2 ^ k % 2 ≡ 0 = bit_zero (set / 2 ^ k % 2) (omega arith) has in
    let none : set % 2 ^ k ≡ 0 * 2 ^ k + set % 2 ^ k = omega arith in
    let turned : k + 1 ≡ 1 + k = omega arith in
    none ∙ ap (λ b. b * 2 ^ k + set % 2 ^ k) (sym bit) ∙ sym (mod-pow-add set 1 k) ∙ ap (λ j. set % 2 ^ j) (sym turned)

abbrev Reads : ℕ → ℕ → Type 0
Reads set k = with_parts 0 (map signal_word (signals_below set k)) ≡ Some (set % 2 ^ k)

read_one : (b : Bool) (set k : ℕ) → has_signal set k ≡ b → k < 32 → Reads set k → Reads set (k + 1)
read_one true set k has small ih =
    ap (λ xs. with_parts 0 (map signal_word xs)) (below_with set k has)
    ∙ ap (with_parts 0) (map_push signal_word (signals_below set k) k)
    ∙ parts_more (map signal_word (signals_below set k)) (signal_word k) 0 (set % 2 ^ k) k (signal_of-signal_word k small) ih
    ∙ ap Some (bit_in set k has)
read_one false set k has small ih =
    ap (λ xs. with_parts 0 (map signal_word xs)) (below_without set k has) ∙ ih ∙ ap Some (bit_out set k has)

reads_to : (set k : ℕ) → k ≤ 32 → Reads set k
reads_to set zero h = let nothing : 0 ≡ set % 1 = omega arith in ap Some nothing
reads_to set (suc k) h =
    let next : suc k ≡ k + 1 = omega arith in
    let small : k < 32 = omega arith in
    subst (Reads set) (sym next) (read_one (has_signal set k) set k refl small (reads_to set k (omega arith)))

-- signals below a number are words without commas
abbrev ArePartsTo : ℕ → ℕ → Type 0
ArePartsTo set k = list_all is_part (map signal_word (signals_below set k)) ≡ true

part_one : (b : Bool) (set k : ℕ) → has_signal set k ≡ b → k < 32 → ArePartsTo set k → ArePartsTo set (k + 1)
part_one true set k has small ih =
    let word : is_part (signal_word k) ≡ true = no_comma k small in
    ap (λ xs. list_all is_part (map signal_word xs)) (below_with set k has)
    ∙ ap (list_all is_part) (map_push signal_word (signals_below set k) k)
    ∙ list_all-append is_part (map signal_word (signals_below set k)) (signal_word k ∷ [])
    ∙ rw (ih, word) refl
part_one false set k has small ih = ap (λ xs. list_all is_part (map signal_word xs)) (below_without set k has) ∙ ih

parts_to : (set k : ℕ) → k ≤ 32 → ArePartsTo set k
parts_to set zero h = refl
parts_to set (suc k) h =
    let next : suc k ≡ k + 1 = omega arith in
    let small : k < 32 = omega arith in
    subst (ArePartsTo set) (sym next) (part_one (has_signal set k) set k refl small (parts_to set k (omega arith)))

split_case : (xs : List ℕ) (total : ℕ) → with_parts 0 (map signal_word xs) ≡ Some total → list_all is_part (map signal_word xs) ≡ true → (total == 0) ≡ false
    → set_of (joined_by_commas (map signal_word xs)) ≡ Some total
split_case [] total e p some = absurd (let same : 0 ≡ total = cc in let is : (total == 0) ≡ true = eq-eqb total 0 (sym same) in let f : false ≡ true = sym some ∙ is in cc)
split_case (x ∷ xs) total e p some =
    let h = both (is_part (signal_word x)) (list_all is_part (map signal_word xs)) p in
    ap (with_parts 0) (parts_back (signal_word x) (map signal_word xs) h.0 h.1) ∙ e

set_case : (all none : Bool) (set : ℕ) → set < 2 ^ 32 → (set == every_signal) ≡ all → (set == 0) ≡ none → set_of (set_word set) ≡ Some set
set_case true none set h a n = rw a (ap Some (sym (eqb-true set every_signal a)))
set_case false true set h a n = rw (a, n) (ap Some (sym (eqb-true set 0 n)))
set_case false false set h a n =
    let whole : set % 2 ^ 32 ≡ set = omega arith in
    rw (a, n) (split_case (signals_of set) set (reads_to set 32 (omega arith) ∙ ap Some whole) (parts_to set 32 (omega arith)) n)

pub set_of-set_word : (set : ℕ) → set < 2 ^ 32 → set_of (set_word set) ≡ Some set
set_of-set_word set h = set_case (set == every_signal) (set == 0) set h refl refl

-- words whose bytes can stand in a word of a line
abbrev are_bytes : List ℕ → Bool
are_bytes word = list_all is_word_byte word

abbrev AreBytesTo : ℕ → ℕ → Type 0
AreBytesTo set k = list_all are_bytes (map signal_word (signals_below set k)) ≡ true

bytes_one : (b : Bool) (set k : ℕ) → has_signal set k ≡ b → k < 32 → AreBytesTo set k → AreBytesTo set (k + 1)
bytes_one true set k has small ih =
    let word : are_bytes (signal_word k) ≡ true = word_bytes k small in
    ap (λ xs. list_all are_bytes (map signal_word xs)) (below_with set k has)
    ∙ ap (list_all are_bytes) (map_push signal_word (signals_below set k) k)
    ∙ list_all-append are_bytes (map signal_word (signals_below set k)) (signal_word k ∷ [])
    ∙ rw (ih, word) refl
bytes_one false set k has small ih = ap (λ xs. list_all are_bytes (map signal_word xs)) (below_without set k has) ∙ ih

bytes_to : (set k : ℕ) → k ≤ 32 → AreBytesTo set k
bytes_to set zero h = refl
bytes_to set (suc k) h =
    let next : suc k ≡ k + 1 = omega arith in
    let small : k < 32 = omega arith in
    subst (AreBytesTo set) (sym next) (bytes_one (has_signal set k) set k refl small (bytes_to set k (omega arith)))

commas_bytes : (ws : List (List ℕ)) → list_all are_bytes ws ≡ true → are_bytes (after_commas ws) ≡ true
commas_bytes [] e = refl
commas_bytes (w ∷ ws) e =
    let h = both (are_bytes w) (list_all are_bytes ws) e in
    list_all-append is_word_byte w (after_commas ws) ∙ rw (h.0, commas_bytes ws h.1) refl

listed_case : (xs : List ℕ) (total : ℕ) → with_parts 0 (map signal_word xs) ≡ Some total → list_all are_bytes (map signal_word xs) ≡ true → (total == 0) ≡ false
    → is_word (joined_by_commas (map signal_word xs)) ≡ true
listed_case [] total e p some = absurd (let same : 0 ≡ total = cc in let is : (total == 0) ≡ true = eq-eqb total 0 (sym same) in let f : false ≡ true = sym some ∙ is in cc)
listed_case (x ∷ xs) total e p some =
    let h = both (are_bytes (signal_word x)) (list_all are_bytes (map signal_word xs)) p in
    list_all-append is_word_byte (signal_word x) (after_commas (map signal_word xs)) ∙ rw (h.0, commas_bytes (map signal_word xs) h.1) refl

written_case : (all none : Bool) (set : ℕ) → set < 2 ^ 32 → (set == every_signal) ≡ all → (set == 0) ≡ none → is_word (set_word set) ≡ true
written_case true none set h a n = rw a refl
written_case false true set h a n = rw (a, n) refl
written_case false false set h a n =
    let whole : set % 2 ^ 32 ≡ set = omega arith in
    rw (a, n) (listed_case (signals_of set) set (reads_to set 32 (omega arith) ∙ ap Some whole) (bytes_to set 32 (omega arith)) n)

pub is_word-set_word : (set : ℕ) → set < 2 ^ 32 → is_word (set_word set) ≡ true
is_word-set_word set h = written_case (set == every_signal) (set == 0) set h refl refl
