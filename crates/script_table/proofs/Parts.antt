-- The first part of a word before a comma.
use Rattle.std.proofs.Common.{◌≡◌, ◌≤◌, ◌<◌, ℕ, suc, ◌+◌, ◌-◌, List, [], ◌∷◌, length, take, drop, refl, sym, subst, arith, Bool, true, false, not}
use Rattle.std.specs.Prelude.{◌==◌}
use Rattle.std.proofs.Common.{length-drop}
use Rattle.std.proofs.Math.Seq.{take-length}
use Rattle.std.specs.List.{prefix_len}
use Rattle.script_table.specs.Words.{parts_of}

abbrev len : List ℕ → ℕ
len word = prefix_len (λ c. not (c == 44)) word

abbrev FirstPart : List ℕ → Type 0
FirstPart word = len word < length word → parts_of word ≡ take (len word) word ∷ parts_of (drop (len word + 1) word)

part_case : (b : Bool) (c : ℕ) (cs : List ℕ) → (c == 44) ≡ b → FirstPart cs → FirstPart (c ∷ cs)
part_case true c cs e ih some = rw e refl
part_case false c cs e ih some =
    let n = len cs in
    let one : 1 + n ≡ suc n = omega arith in
    let two : suc n + 1 ≡ suc (n + 1) = omega arith in
    let there : suc n < suc (length cs) = rw (e, one) at some in
    rw (e, one, two, ih (omega arith)) refl

pub first_part : (word : List ℕ) → FirstPart word
first_part [] some = absurd (omega arith)
first_part (c ∷ cs) some = part_case (c == 44) c cs refl (first_part cs) some

abbrev OnlyPart : List ℕ → Type 0
OnlyPart word = length word ≤ len word → parts_of word ≡ take (len word) word ∷ []

only_case : (b : Bool) (c : ℕ) (cs : List ℕ) → (c == 44) ≡ b → OnlyPart cs → OnlyPart (c ∷ cs)
only_case true c cs e ih all = let none : suc (length cs) ≤ 0 = rw e at all in absurd (omega arith)
only_case false c cs e ih all =
    let n = len cs in
    let one : 1 + n ≡ suc n = omega arith in
    let there : suc (length cs) ≤ suc n = rw (e, one) at all in
    rw (e, one, ih (omega arith)) refl

pub only_part : (word : List ℕ) → OnlyPart word
only_part [] all = refl
only_part (c ∷ cs) all = only_case (c == 44) c cs refl (only_part cs) all

pub to_end : {X : Type 0} (xs : List X) (k : ℕ) → take (length xs - k) (drop k xs) ≡ drop k xs
to_end xs k = subst (λ n. take n (drop k xs) ≡ drop k xs) (length-drop k xs) (take-length (drop k xs))

pub with_comma : (word : List ℕ) (k : ℕ) → k ≡ len word → k < length word → parts_of word ≡ take k word ∷ parts_of (drop (k + 1) word)
with_comma word k is some = subst (λ n. parts_of word ≡ take n word ∷ parts_of (drop (n + 1) word)) (sym is) (first_part word (omega arith))

pub without_comma : (word : List ℕ) (k : ℕ) → k ≡ len word → length word ≤ k → parts_of word ≡ take k word ∷ []
without_comma word k is all = subst (λ n. parts_of word ≡ take n word ∷ []) (sym is) (only_part word (omega arith))
