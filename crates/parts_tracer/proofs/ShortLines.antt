-- Lines of at most 256 bytes, one behind the other.
use Rattle.std.proofs.Common.{◌≡◌, ◌≤◌, ◌<◌, ℕ, ◌+◌, List, [], ◌∷◌, ◌++◌, length, take, drop, refl, sym, ◌∙◌, ap, subst, arith, rules, Bool, true, false, Option, None, Some}
use Rattle.std.specs.Prelude.{◌==◌, nat_lt, is_some}
use Rattle.std.specs.Io.KnownBytes.{Appends}
use Rattle.parts_io.specs.Bytes.{AppendsPart}
use Rattle.std.proofs.lemmas.List.{take-append-drop}
use Rattle.parts_tracer.specs.ShortLines.{column_after, AreWhole, HasShortLines}

-- from a column, where there is one
abbrev pub column_behind : Option ℕ → List ℕ → Option ℕ
column_behind None text = None
column_behind (Some n) text = column_after n text

append_case : (b d : Bool) (n c : ℕ) (cs ys : List ℕ) → (c == 10) ≡ b → nat_lt n 255 ≡ d
    → column_after 0 (cs ++ ys) ≡ column_behind (column_after 0 cs) ys → column_after (n + 1) (cs ++ ys) ≡ column_behind (column_after (n + 1) cs) ys
    → column_after n (c ∷ cs ++ ys) ≡ column_behind (column_after n (c ∷ cs)) ys
append_case true d n c cs ys e f ended going = rw e ended
append_case false true n c cs ys e f ended going = rw (e, f) going
append_case false false n c cs ys e f ended going = rw (e, f) refl

-- one text behind the other
pub column-append : (xs ys : List ℕ) (n : ℕ) → column_after n (xs ++ ys) ≡ column_behind (column_after n xs) ys
column-append [] ys n = refl
column-append (c ∷ cs) ys n = append_case (c == 10) (nat_lt n 255) n c cs ys refl refl (column-append cs ys 0) (column-append cs ys (n + 1))

below : (n : ℕ) → n < 255 → nat_lt n 255 ≡ true
below n h = search rules

ended_case : (b : Bool) (n c : ℕ) (cs : List ℕ) → (c == 10) ≡ b → n < 255
    → column_after 0 (cs ++ 10 ∷ []) ≡ Some 0 → column_after (n + 1) (cs ++ 10 ∷ []) ≡ Some 0
    → column_after n (c ∷ cs ++ 10 ∷ []) ≡ Some 0
ended_case true n c cs e h ended going = rw e ended
ended_case false n c cs e h ended going = rw (e, below n h) going

ended_from : (w : List ℕ) (n : ℕ) → n + length w ≤ 255 → column_after n (w ++ 10 ∷ []) ≡ Some 0
ended_from [] n h = refl
ended_from (c ∷ cs) n h = ended_case (c == 10) n c cs refl (omega arith) (ended_from cs 0 (omega arith)) (ended_from cs (n + 1) (omega arith))

-- at most 255 bytes and a line end
pub ended_is_whole : (w : List ℕ) → length w < 256 → AreWhole (w ++ 10 ∷ [])
ended_is_whole w h = ended_from w 0 (omega arith)

front_case : (o : Option ℕ) (ys : List ℕ) → is_some (column_behind o ys) ≡ true → is_some o ≡ true
front_case None ys h = h
front_case (Some n) ys h = refl

-- a front of a text
pub front_is_short : (xs ys : List ℕ) (n : ℕ) → is_some (column_after n (xs ++ ys)) ≡ true → is_some (column_after n xs) ≡ true
front_is_short xs ys n h = front_case (column_after n xs) ys (subst (λ o. is_some o ≡ true) (column-append xs ys n) h)

behind_whole : (xs ys : List ℕ) → AreWhole xs → column_after 0 (xs ++ ys) ≡ column_after 0 ys
behind_whole xs ys whole = column-append xs ys 0 ∙ ap (λ o. column_behind o ys) whole

-- whole lines behind whole lines
pub short_all : (a b : Option (List ℕ)) (lines : List ℕ) → AreWhole lines → Appends a b lines → HasShortLines false a → HasShortLines false b
short_all None b lines whole written h = absurd h
short_all (Some xs) None lines whole written h = absurd written
short_all (Some xs) (Some ys) lines whole written h = ap (λ t. column_after 0 t) written ∙ (behind_whole xs lines h ∙ whole)

part_case : (k : ℕ) (lines : List ℕ) → AreWhole lines → is_some (column_after 0 (take k lines)) ≡ true
part_case k lines whole =
    let all : is_some (column_after 0 lines) ≡ true = ap is_some whole in
    front_is_short (take k lines) (drop k lines) 0 (subst (λ t. is_some (column_after 0 t) ≡ true) (sym (take-append-drop k lines)) all)

-- a part of them
pub short_part : (a b : Option (List ℕ)) (lines : List ℕ) → AreWhole lines → AppendsPart a b lines → HasShortLines false a → HasShortLines true b
short_part None b lines whole written h = absurd h
short_part (Some xs) None lines whole (k, written) h = absurd written
short_part (Some xs) (Some ys) lines whole (k, written) h =
    subst (λ o. is_some o ≡ true) (sym (ap (λ t. column_after 0 t) written ∙ behind_whole xs (take k lines) h)) (part_case k lines whole)
