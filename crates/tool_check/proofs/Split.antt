-- The first word of a line.
use Rattle.std.proofs.Common.{◌≡◌, ◌≤◌, ◌<◌, ℕ, suc, ◌+◌, List, [], ◌∷◌, length, take, drop, refl, sym, subst, arith, Bool, true, false, not}
use Rattle.std.specs.Prelude.{◌==◌}
use Rattle.std.specs.List.{prefix_len}
use Rattle.tool_check.specs.Words.{trace_words}

abbrev len : List ℕ → ℕ
len line = prefix_len (λ c. not (c == 32)) line

abbrev FirstWord : List ℕ → Type 0
FirstWord line = len line < length line → trace_words line ≡ take (len line) line ∷ trace_words (drop (len line + 1) line)

first_case : (b : Bool) (c : ℕ) (cs : List ℕ) → (c == 32) ≡ b → FirstWord cs → FirstWord (c ∷ cs)
first_case true c cs e ih some = rw e refl
first_case false c cs e ih some =
    let n = len cs in
    let one : 1 + n ≡ suc n = omega arith in
    let two : suc n + 1 ≡ suc (n + 1) = omega arith in
    let there : suc n < suc (length cs) = rw (e, one) at some in
    rw (e, one, two, ih (omega arith)) refl

first_of : (line : List ℕ) → FirstWord line
first_of [] some = absurd (omega arith)
first_of (c ∷ cs) some = first_case (c == 32) c cs refl (first_of cs) some

abbrev OnlyWord : List ℕ → Type 0
OnlyWord line = length line ≤ len line → trace_words line ≡ take (len line) line ∷ []

only_case : (b : Bool) (c : ℕ) (cs : List ℕ) → (c == 32) ≡ b → OnlyWord cs → OnlyWord (c ∷ cs)
only_case true c cs e ih all = let none : suc (length cs) ≤ 0 = rw e at all in absurd (omega arith)
only_case false c cs e ih all =
    let n = len cs in
    let one : 1 + n ≡ suc n = omega arith in
    let there : suc (length cs) ≤ suc n = rw (e, one) at all in
    rw (e, one, ih (omega arith)) refl

only_of : (line : List ℕ) → OnlyWord line
only_of [] all = refl
only_of (c ∷ cs) all = only_case (c == 32) c cs refl (only_of cs) all

-- a word, a blank, and more
pub with_blank : (line : List ℕ) (k : ℕ) → k ≡ len line → k < length line → trace_words line ≡ take k line ∷ trace_words (drop (k + 1) line)
with_blank line k is some = subst (λ n. trace_words line ≡ take n line ∷ trace_words (drop (n + 1) line)) (sym is) (first_of line (omega arith))

-- a word alone
pub without_blank : (line : List ℕ) (k : ℕ) → k ≡ len line → length line ≤ k → trace_words line ≡ take k line ∷ []
without_blank line k is all = subst (λ n. trace_words line ≡ take n line ∷ []) (sym is) (only_of line (omega arith))
