-- A set that a word names has 32 signals at most.
use Rattle.std.proofs.Common.{◌≡◌, ◌≤◌, ◌<◌, ◌^◌, ◌*◌, ◌-◌, ℕ, ◌+◌, List, [], ◌∷◌, refl, Bool, true, false, arith, rules, Option, None, Some}
use Rattle.std.specs.Prelude.{◌&&◌, ◌==◌, nat_le, codes, if◌then◌else◌}
use Rattle.std.specs.Str.{bytes_eq}
use Rattle.std.proofs.lemmas.Nat.{or_lt, pow_below}
use Rattle.script_lex.proofs.Rejoined.{both}
use Rattle.words_numbers.specs.Signals.{every_signal, with_signal}
use Rattle.words_script.specs.Names.{is_digit}
use Rattle.script_table.specs.Words.{signal_number, signal_of, parts_of, with_part, with_parts, set_of}

pub if_some : (b : Bool) (x k : ℕ) → (if b then Some x else None) ≡ Some k → (b ≡ true) × (x ≡ k)
if_some true x k e = (refl, cc)
if_some false x k e = absurd (let f : None ≡ Some k = e in cc)

one_digit : (d k : ℕ) → is_digit d ≡ true → d - 48 ≡ k → k < 32
one_digit d k e same = let top : d ≤ 57 = search rules in omega arith

signal_small : (word : List ℕ) (k : ℕ) → signal_number word ≡ Some k → k < 32
signal_small [] k e = absurd (let f : None ≡ Some k = e in cc)
signal_small (d ∷ []) k e = let h = if_some (is_digit d) (d - 48) k e in one_digit d k h.0 h.1
signal_small (t ∷ d ∷ []) k e =
    let n : ℕ = (t - 48) * 10 + (d - 48) in
    let h = if_some ((nat_le 49 t && (nat_le t 51 && is_digit d)) && nat_le n 31) n k e in
    let small : nat_le n 31 ≡ true = (both (nat_le 49 t && (nat_le t 51 && is_digit d)) (nat_le n 31) h.0).1 in
    let bound : n ≤ 31 = search rules in
    omega (arith, h.1)
signal_small (t ∷ d ∷ c ∷ more) k e = absurd (let f : None ≡ Some k = e in cc)

signal_case : (b : Bool) (digits : List ℕ) (k : ℕ) → (if b then signal_number digits else None) ≡ Some k → k < 32
signal_case true digits k e = signal_small digits k e
signal_case false digits k e = absurd (let f : None ≡ Some k = e in cc)

pub signal_of-small : (word : List ℕ) (k : ℕ) → signal_of word ≡ Some k → k < 32
signal_of-small [] k e = absurd (let f : None ≡ Some k = e in cc)
signal_of-small (r ∷ []) k e = absurd (let f : None ≡ Some k = e in cc)
signal_of-small (r ∷ t ∷ digits) k e = signal_case (r == 114 && t == 116) digits k e

with_small : (set k : ℕ) → set < 2 ^ 32 → k < 32 → with_signal set k < 2 ^ 32
with_small set k h small = or_lt 32 set (2 ^ k) h (pow_below k 32 small)

part_small : (found : Option ℕ) (set total : ℕ) (rest : ℕ → Option ℕ) → ((k : ℕ) → found ≡ Some k → k < 32) → set < 2 ^ 32
    → ((s : ℕ) → s < 2 ^ 32 → rest s ≡ Some total → total < 2 ^ 32) → with_part set found rest ≡ Some total → total < 2 ^ 32
part_small None set total rest small h ih e = absurd (let f : None ≡ Some total = e in cc)
part_small (Some k) set total rest small h ih e = ih (with_signal set k) (with_small set k h (small k refl)) e

parts_small : (ps : List (List ℕ)) (set total : ℕ) → set < 2 ^ 32 → with_parts set ps ≡ Some total → total < 2 ^ 32
parts_small [] set total h e = let same : set ≡ total = cc in omega (arith, same)
parts_small (p ∷ ps) set total h e =
    part_small (signal_of p) set total (λ s. with_parts s ps) (λ k is. signal_of-small p k is) h (λ s bound is. parts_small ps s total bound is) e

set_case : (all none : Bool) (word : List ℕ) (total : ℕ)
    → (if all then Some every_signal else if none then Some 0 else with_parts 0 (parts_of word)) ≡ Some total → total < 2 ^ 32
set_case true none word total e = let same : every_signal ≡ total = cc in omega (arith, same)
set_case false true word total e = let same : 0 ≡ total = cc in omega (arith, same)
set_case false false word total e = parts_small (parts_of word) 0 total (omega arith) e

pub set_of-small : (word : List ℕ) (total : ℕ) → set_of word ≡ Some total → total < 2 ^ 32
set_of-small word total e = set_case (bytes_eq word (codes "all")) (bytes_eq word (codes "none")) word total e
