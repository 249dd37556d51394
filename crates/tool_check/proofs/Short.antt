-- Texts whose lines have at most 256 bytes with their line ends.
use Rattle.std.proofs.Common.{◌≡◌, ◌≤◌, ◌<◌, ℕ, zero, suc, ◌+◌, List, [], ◌∷◌, ◌++◌, length, refl, ap, subst, arith, rules, Bool, true, false, Option, None, Some}
use Rattle.std.specs.Prelude.{◌==◌, nat_lt, is_some, slice_get, cond}
use Rattle.std.proofs.lemmas.List.Sums.{sum_by-cons}
use Rattle.script_lex.specs.Lines.{lines_of}
use Rattle.script_lex.specs.Words.{onto_first}
use Rattle.parts_tracer.specs.ShortLines.{column_after}
use Rattle.parts_tracer.proofs.ShortLines.{column_behind, column-append}
use Rattle.tool_check.specs.Difference.{line_ends}

abbrev IsShort : ℕ → List ℕ → Type 0
IsShort n text = is_some (column_after n text) ≡ true

-- no line has more than 255 bytes, where n bytes of the first stand before it
abbrev AreBelow : ℕ → List (List ℕ) → Type 0
AreBelow n [] = Unit {0}
AreBelow n (l ∷ ls) = (n + length l ≤ 255) × AreBelow 0 ls

above : (n : ℕ) → nat_lt n 255 ≡ true → n < 255
above n h = search rules

onto_below : (n c : ℕ) (ls : List (List ℕ)) → n < 255 → AreBelow (n + 1) ls → AreBelow n (onto_first c ls)
onto_below n c [] h all = (omega arith, tt)
onto_below n c (l ∷ ls) h (first, rest) = (omega arith, rest)

below_case : (b d : Bool) (n c : ℕ) (cs : List ℕ) → (c == 10) ≡ b → nat_lt n 255 ≡ d → n ≤ 255 → IsShort n (c ∷ cs)
    → (IsShort 0 cs → AreBelow 0 (lines_of cs)) → (n < 255 → IsShort (n + 1) cs → AreBelow (n + 1) (lines_of cs)) → AreBelow n (lines_of (c ∷ cs))
unfolding lines_of
below_case true d n c cs e f h short ended going = let rest : IsShort 0 cs = rw e at short in rw e (omega arith, ended rest)
below_case false true n c cs e f h short ended going =
    let rest : IsShort (n + 1) cs = rw (e, f) at short in
    rw e (onto_below n c (lines_of cs) (above n f) (going (above n f) rest))
below_case false false n c cs e f h short ended going = absurd (let no : false ≡ true = rw (e, f) at short in cc)

lines_below : (text : List ℕ) (n : ℕ) → n ≤ 255 → IsShort n text → AreBelow n (lines_of text)
unfolding lines_of
lines_below [] n h short = tt
lines_below (c ∷ cs) n h short =
    below_case (c == 10) (nat_lt n 255) n c cs refl refl h short (λ s. lines_below cs 0 (omega arith) s) (λ more s. lines_below cs (n + 1) (omega arith) s)

abbrev line_in : Option (List ℕ) → List ℕ
line_in None = []
line_in (Some l) = l

one_below : (ls : List (List ℕ)) (n i : ℕ) (l : List ℕ) → AreBelow n ls → slice_get ls i ≡ Some l → length l ≤ 255
one_below [] n i l all e = absurd (search rules)
one_below (k ∷ ks) n zero l (first, rest) e = let same : k ≡ l = ap line_in e in subst (λ t. length t ≤ 255) same (omega arith)
one_below (k ∷ ks) n (suc i) l (first, rest) e = one_below ks 0 i l rest e

-- each line of such a text
pub line_is_short : (text : List ℕ) (i : ℕ) (l : List ℕ) → is_some (column_after 0 text) ≡ true → slice_get (lines_of text) i ≡ Some l → length l ≤ 255
line_is_short text i l short e = one_below (lines_of text) 0 i l (lines_below text 0 (omega arith) short) e

-- the line ends behind a byte, and itself
pub ends_more : (c : ℕ) (cs : List ℕ) → line_ends (c ∷ cs) ≡ cond (c == 10) 1 0 + line_ends cs
ends_more c cs = sum_by-cons (λ x. cond (x == 10) 1 0) c cs

pub ends_here : (c : ℕ) (cs : List ℕ) → (c == 10) ≡ true → line_ends (c ∷ cs) ≡ 1 + line_ends cs
ends_here c cs e = subst (λ b. line_ends (c ∷ cs) ≡ cond b 1 0 + line_ends cs) e (ends_more c cs)

pub ends_later : (c : ℕ) (cs : List ℕ) → (c == 10) ≡ false → line_ends (c ∷ cs) ≡ line_ends cs
ends_later c cs e = let more : line_ends (c ∷ cs) ≡ 0 + line_ends cs = subst (λ b. line_ends (c ∷ cs) ≡ cond b 1 0 + line_ends cs) e (ends_more c cs) in omega arith

end_case : (b d : Bool) (n c : ℕ) (cs : List ℕ) → (c == 10) ≡ b → nat_lt n 255 ≡ d → IsShort n (c ∷ cs)
    → (n < 255 → IsShort (n + 1) cs → 0 < line_ends cs) → 0 < line_ends (c ∷ cs)
end_case true d n c cs e f short going = let one = ends_here c cs e in omega arith
end_case false true n c cs e f short going = let rest : IsShort (n + 1) cs = rw (e, f) at short in rw (ends_later c cs e) (going (above n f) rest)
end_case false false n c cs e f short going = absurd (let no : false ≡ true = rw (e, f) at short in cc)

-- among 256 bytes of such a text there is a line end
end_within : (text : List ℕ) (n : ℕ) → n ≤ 255 → IsShort n text → 256 ≤ n + length text → 0 < line_ends text
end_within [] n h short long = absurd (omega arith)
end_within (c ∷ cs) n h short long =
    end_case (c == 10) (nat_lt n 255) n c cs refl refl short (λ more s. end_within cs (n + 1) (omega arith) s (omega arith))

small_case : (b d : Bool) (n m c : ℕ) (cs : List ℕ) → (c == 10) ≡ b → nat_lt n 255 ≡ d → column_after n (c ∷ cs) ≡ Some m
    → (column_after 0 cs ≡ Some m → m ≤ 255) → (n < 255 → column_after (n + 1) cs ≡ Some m → m ≤ 255) → m ≤ 255
small_case true d n m c cs e f is ended going = ended (rw e at is)
small_case false true n m c cs e f is ended going = going (above n f) (rw (e, f) at is)
small_case false false n m c cs e f is ended going = absurd (let no : None ≡ Some m = rw (e, f) at is in search rules)

abbrev number_in : Option ℕ → ℕ
number_in None = 0
number_in (Some n) = n

column_small : (text : List ℕ) (n m : ℕ) → n ≤ 255 → column_after n text ≡ Some m → m ≤ 255
column_small [] n m h is = let same : n ≡ m = ap number_in is in omega arith
column_small (c ∷ cs) n m h is =
    small_case (c == 10) (nat_lt n 255) n m c cs refl refl is (λ e. column_small cs 0 m (omega arith) e) (λ more e. column_small cs (n + 1) m (omega arith) e)

behind_case : (o : Option ℕ) (xs ys : List ℕ) → column_after 0 xs ≡ o → is_some (column_behind o ys) ≡ true → 256 ≤ length ys → 0 < line_ends ys
behind_case None xs ys is short long = absurd (let no : false ≡ true = short in cc)
behind_case (Some m) xs ys is short long = end_within ys m (column_small xs 0 m (omega arith) is) short (omega arith)

-- also behind a front of it
pub end_behind : (xs ys : List ℕ) → is_some (column_after 0 (xs ++ ys)) ≡ true → 256 ≤ length ys → 0 < line_ends ys
end_behind xs ys short long =
    behind_case (column_after 0 xs) xs ys refl (subst (λ o. is_some o ≡ true) (column-append xs ys 0) short) long
