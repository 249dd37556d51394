-- How much of the due trace tells what differs.
use Rattle.std.proofs.Common.{◌≡◌, ◌≤◌, ◌<◌, ℕ, zero, suc, ◌+◌, ◌-◌, List, [], ◌∷◌, ◌++◌, length, take, drop, refl, sym, ◌∙◌, ap, subst, arith, Bool, true, false, Option, None, Some, inl, inr, length-append, length-drop, eqb-true}
use Rattle.std.specs.Prelude.{◌==◌, ◌⊎◌, is_some, slice_get}
use Rattle.std.specs.Str.{bytes_eq}
use Rattle.std.proofs.lemmas.Slice.Eq.{bytes_eq-Decides}
use Rattle.std.proofs.lemmas.List.{take-append-drop}
use Rattle.std.proofs.lemmas.List.Sums.{sum_by-append, common_prefix_len-le}
use Rattle.script_lex.specs.Lines.{lines_of}
use Rattle.script_lex.specs.Words.{onto_first}
use Rattle.parts_tracer.specs.ShortLines.{column_after, HasShortLines}
use Rattle.parts_tracer.specs.Printed.{Printed}
use Rattle.tool_check.specs.Difference.{common_len, line_ends, difference}
use Rattle.tool_check.specs.Comparison.{comparison, comparison_at, difference_text, line_at}
use Rattle.tool_check.proofs.Short.{end_behind, ends_here, ends_later}

-- the line that a byte is put before
abbrev onto_got : ℕ → ℕ → Option (List ℕ) → Option (List ℕ)
onto_got c zero None = Some (c ∷ [])
onto_got c zero (Some l) = Some (c ∷ l)
onto_got c (suc i) found = found

got_onto : (c k : ℕ) (ls : List (List ℕ)) → slice_get (onto_first c ls) k ≡ onto_got c k (slice_get ls k)
got_onto c zero [] = refl
got_onto c (suc i) [] = refl
got_onto c zero (l ∷ ls) = refl
got_onto c (suc i) (l ∷ ls) = refl

front_case : (b : Bool) (c k : ℕ) (cs rest : List ℕ) → (c == 10) ≡ b → k < line_ends (c ∷ cs)
    → ((i : ℕ) → i < line_ends cs → slice_get (lines_of (cs ++ rest)) i ≡ slice_get (lines_of cs) i)
    → slice_get (lines_of (c ∷ cs ++ rest)) k ≡ slice_get (lines_of (c ∷ cs)) k
unfolding lines_of
front_case true c zero cs rest e h ih = rw e refl
front_case true c (suc i) cs rest e h ih = let more = ends_here c cs e in rw e (ih i (omega arith))
front_case false c k cs rest e h ih =
    let more : k < line_ends cs = rw (ends_later c cs e) at h in
    rw e (got_onto c k (lines_of (cs ++ rest)) ∙ (ap (onto_got c k) (ih k more) ∙ sym (got_onto c k (lines_of cs))))

-- a line that ends in the front of a text
front_has_line : (front rest : List ℕ) (k : ℕ) → k < line_ends front → slice_get (lines_of (front ++ rest)) k ≡ slice_get (lines_of front) k
front_has_line [] rest k h = absurd (omega arith)
front_has_line (c ∷ cs) rest k h = front_case (c == 10) c k cs rest refl h (λ i more. front_has_line cs rest i more)

-- what stands behind a front that is longer
common_case : (b : Bool) (x y : ℕ) (xs ys rest : List ℕ) → (x == y) ≡ b → common_len xs (ys ++ rest) ≡ common_len xs ys
    → common_len (x ∷ xs) (y ∷ ys ++ rest) ≡ common_len (x ∷ xs) (y ∷ ys)
common_case true x y xs ys rest e ih = rw (e, ih) refl
common_case false x y xs ys rest e ih = rw e refl

common_front : (have held rest : List ℕ) → length have ≤ length held → common_len have (held ++ rest) ≡ common_len have held
common_front [] held rest h = refl
common_front (x ∷ xs) [] rest h = absurd (omega arith)
common_front (x ∷ xs) (y ∷ ys) rest h = common_case (x == y) x y xs ys rest refl (common_front xs ys rest (omega arith))

same_case : (b : Bool) (x y : ℕ) (xs ys : List ℕ) → (x == y) ≡ b → take (common_len xs ys) xs ≡ take (common_len xs ys) ys
    → take (common_len (x ∷ xs) (y ∷ ys)) (x ∷ xs) ≡ take (common_len (x ∷ xs) (y ∷ ys)) (y ∷ ys)
same_case true x y xs ys e ih =
    let same : x ≡ y = eqb-true x y e in
    let one : 1 + common_len xs ys ≡ suc (common_len xs ys) = omega arith in
    rw (e, one) (subst (λ z. x ∷ take (common_len xs ys) xs ≡ z ∷ take (common_len xs ys) ys) same (ap (λ t. x ∷ t) ih))
same_case false x y xs ys e ih = rw e refl

-- the common beginning stands in both
common_same : (have want : List ℕ) → take (common_len have want) have ≡ take (common_len have want) want
common_same [] want = refl
common_same (x ∷ xs) [] = refl
common_same (x ∷ xs) (y ∷ ys) = same_case (x == y) x y xs ys refl (common_same xs ys)

unlike : (b : Bool) (xs ys : List ℕ) → bytes_eq xs ys ≡ b → length xs < length ys → b ≡ false
unlike false xs ys e h = refl
unlike true xs ys e h = let same : xs ≡ ys = (bytes_eq-Decides xs ys).0 e in absurd (let l = ap length same in omega arith)

differs_at : (have want : List ℕ) → length have < length want → difference have want ≡ Some (1 + line_ends (take (common_len have want) have))
differs_at have want h = let no : bytes_eq have want ≡ false = unlike (bytes_eq have want) have want refl h in rw no refl

parts_sum : (k : ℕ) (text : List ℕ) → line_ends (take k text) + line_ends (drop k text) ≡ line_ends text
parts_sum k text = sym (sum_by-append _ (take k text) (drop k text)) ∙ ap line_ends (take-append-drop k text)

-- A front that is longer by 257 bytes than the trace beside it tells what differs, as the whole does.
pub front_is_enough : (have held rest : List ℕ) → is_some (column_after 0 held) ≡ true → length have + 257 ≤ length held
    → comparison have held ≡ comparison have (held ++ rest)
front_is_enough have held rest short long =
    let n = common_len have held in
    let same : common_len have (held ++ rest) ≡ n = common_front have held rest (omega arith) in
    let small : n ≤ length have = (common_prefix_len-le (λ x y. x == y) have held).0 in
    let tail : 256 ≤ length (drop n held) = omega (arith, length-drop n held) in
    let behind : 0 < line_ends (drop n held) =
    end_behind (take n held) (drop n held) (subst (λ t. is_some (column_after 0 t) ≡ true) (sym (take-append-drop n held)) short) tail in
    let before : line_ends (take n have) ≡ line_ends (take n held) = ap line_ends (common_same have held) in
    let ends : line_ends (take n have) < line_ends held = omega (arith, parts_sum n held) in
    let number : 1 + line_ends (take n have) - 1 ≡ line_ends (take n have) = omega arith in
    let line : line_at held (1 + line_ends (take n have)) ≡ line_at (held ++ rest) (1 + line_ends (take n have)) =
    rw number (sym (front_has_line held rest (line_ends (take n have)) ends)) in
    let here : difference have held ≡ Some (1 + line_ends (take n have)) = differs_at have held (omega arith) in
    let there : difference have (held ++ rest) ≡ Some (1 + line_ends (take n have)) =
    differs_at have (held ++ rest) (omega (arith, length-append held rest)) ∙ ap (λ k. Some (1 + line_ends (take k have))) same in
    ap (λ d. comparison_at d have held) here
    ∙ (ap (λ l. Some (difference_text (1 + line_ends (take n have)) l (line_at have (1 + line_ends (take n have))))) line
    ∙ sym (ap (λ d. comparison_at d have (held ++ rest)) there))

short_text : (failed : Bool) (text : List ℕ) → HasShortLines failed (Some text) → is_some (column_after 0 text) ≡ true
short_text true text h = h
short_text false text h = ap is_some h

module _ (held due : List ℕ) (failed : Bool) (faults : ℕ) (printed : Printed (record { failed = false; text = Some []; faults = 0 }) (record { failed = failed; text = Some held; faults = faults }) due) where
  -- what a tracer printed to an empty sink has short lines
  pub held_is_short : is_some (column_after 0 held) ≡ true
  held_is_short = short_text failed held (printed.short refl)

  whole_case : (have : List ℕ) → failed ≡ false → comparison have held ≡ comparison have due
  whole_case have ok = ap (comparison have) (printed.whole ok)

  part_case : (have : List ℕ) (room : ℕ) → failed ≡ true → (faults ≡ 0) ⊎ (length held ≡ room) → length have + 257 ≤ room → comparison have held ≡ comparison have due
  part_case have room stopped (inl none) enough = absurd (let rose = printed.fault refl stopped in omega arith)
  part_case have room stopped (inr full) enough =
      let same : held ++ drop printed.part.0 due ≡ due = ap (λ t. t ++ drop printed.part.0 due) printed.part.1 ∙ take-append-drop printed.part.0 due in
      front_is_enough have held (drop printed.part.0 due) held_is_short (omega arith) ∙ ap (comparison have) same

  either_case : (b : Bool) (have : List ℕ) (room : ℕ) → failed ≡ b → (faults ≡ 0) ⊎ (length held ≡ room) → length have + 257 ≤ room → comparison have held ≡ comparison have due
  either_case false have room is full enough = whole_case have is
  either_case true have room is full enough = part_case have room is full enough

  -- and tells what differs, as all that was due does, where it has room for 257 bytes more than the trace beside it
  pub held_is_enough : (have : List ℕ) (room : ℕ) → (faults ≡ 0) ⊎ (length held ≡ room) → length have + 257 ≤ room → comparison have held ≡ comparison have due
  held_is_enough have room full enough = either_case failed have room refl full enough
