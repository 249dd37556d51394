-- One line after another.
use Rattle.std.proofs.Common.{◌≡◌, ◌≤◌, ◌<◌, ℕ, zero, suc, ◌+◌, ◌-◌, List, [], ◌∷◌, length, take, drop, refl, sym, ◌∙◌, ap, subst, arith, true, false, not, Option, None, Some, length-drop}
use Rattle.std.specs.Prelude.{◌==◌, slice_get, codes}
use Rattle.std.specs.List.{prefix_len}
use Rattle.std.specs.Option.{option_map}
use Rattle.std.specs.Str.{bytes_eq}
use Rattle.std.proofs.Math.ListN.{drop_of_length-le}
use Rattle.std.proofs.lemmas.List.{drop-drop, length-take-le}
use Rattle.script_lex.specs.Lines.{lines_of}
use Rattle.script_lex.proofs.Split.{line_with_end, no_lines}
use Rattle.tool_check.specs.Divided.{divider_at}

abbrev line_end : List ℕ → ℕ
line_end text = prefix_len (λ c. not (c == 10)) text

next_line : (text : List ℕ) (at k : ℕ) → at < length text → k ≡ line_end (drop at text) → lines_of (drop at text) ≡ take k (drop at text) ∷ lines_of (drop (at + (k + 1)) text)
next_line text at k h is =
    subst (λ t. lines_of (drop at text) ≡ take k (drop at text) ∷ lines_of t) (drop-drop (k + 1) at text)
    (line_with_end (drop at text) k (omega (arith, length-drop at text)) is)

no_more : (text : List ℕ) (at : ℕ) → length text ≤ at → lines_of (drop at text) ≡ []
no_more text at h = ap lines_of (drop_of_length-le text h) ∙ no_lines

-- the line with no line before it
pub line_found : (text : List ℕ) (at k : ℕ) (found : Option (List ℕ)) → at < length text → k ≡ line_end (drop at text)
    → slice_get (lines_of (drop at text)) 0 ≡ found → Some (take k (drop at text)) ≡ found
line_found text at k found h is before = rw (next_line text at k h is) at before

-- a line with lines before it stands behind this one
pub line_passed : (text : List ℕ) (at k left : ℕ) (found : Option (List ℕ)) → at < length text → k ≡ line_end (drop at text) → 0 < left
    → slice_get (lines_of (drop at text)) left ≡ found → slice_get (lines_of (drop (at + (k + 1)) text)) (left - 1) ≡ found
line_passed text at k zero found h is some before = absurd (omega arith)
line_passed text at k (suc n) found h is some before =
    let less : suc n - 1 ≡ n = omega arith in
    rw less (rw (next_line text at k h is) at before)

-- no line is left
pub line_missing : (text : List ℕ) (at left : ℕ) (found : Option (List ℕ)) → length text ≤ at → slice_get (lines_of (drop at text)) left ≡ found → None ≡ found
line_missing text at left found h before = rw (no_more text at h) at before

-- the divider is here
pub divider_found : (input : List ℕ) (at k : ℕ) (found : Option ℕ) → at < length input → k ≡ line_end (drop at input)
    → bytes_eq (take k (drop at input)) (codes "%%") ≡ true
    → option_map (λ n. at + n) (divider_at (lines_of (drop at input))) ≡ found → Some at ≡ found
divider_found input at k found h is here before =
    let e : option_map (λ n. at + n) (divider_at (take k (drop at input) ∷ lines_of (drop (at + (k + 1)) input))) ≡ found = rw (next_line input at k h is) at before in
    let f : Some (at + 0) ≡ found = rw here at e in
    let same : at + 0 ≡ at = omega arith in
    rw same at f

shifted : (a b c : ℕ) (o : Option ℕ) → c ≡ a + (b + 1) → option_map (λ n. a + n) (option_map (λ n. b + 1 + n) o) ≡ option_map (λ n. c + n) o
shifted a b c None is = refl
shifted a b c (Some n) is = ap Some (omega arith)

-- the divider is not here
pub divider_passed : (input : List ℕ) (at k : ℕ) (found : Option ℕ) → at < length input → k ≡ line_end (drop at input) → k ≤ length (drop at input)
    → bytes_eq (take k (drop at input)) (codes "%%") ≡ false
    → option_map (λ n. at + n) (divider_at (lines_of (drop at input))) ≡ found
    → option_map (λ n. (at + (k + 1)) + n) (divider_at (lines_of (drop (at + (k + 1)) input))) ≡ found
divider_passed input at k found h is room here before =
    let rest = divider_at (lines_of (drop (at + (k + 1)) input)) in
    let e : option_map (λ n. at + n) (divider_at (take k (drop at input) ∷ lines_of (drop (at + (k + 1)) input))) ≡ found = rw (next_line input at k h is) at before in
    let f : option_map (λ n. at + n) (option_map (λ n. length (take k (drop at input)) + 1 + n) rest) ≡ found = rw here at e in
    sym (shifted at (length (take k (drop at input))) (at + (k + 1)) rest (omega (arith, length-take-le k (drop at input) room))) ∙ f

-- no line is a divider
pub divider_missing : (input : List ℕ) (at : ℕ) (found : Option ℕ) → length input ≤ at
    → option_map (λ n. at + n) (divider_at (lines_of (drop at input))) ≡ found → None ≡ found
divider_missing input at found h before = rw (no_more input at h) at before
