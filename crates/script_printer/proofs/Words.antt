-- The text of some words of a line, and of one more.
use Rattle.std.proofs.Common.{◌≡◌, ◌<◌, ◌≤◌, ◌+◌, length-append, ℕ, zero, suc, List, [], ◌∷◌, ◌++◌, append-nil, append_assoc, ap, arith, drop, get_or, length, map, subst, sym, take, ◌∙◌, ◌-◌}
use Rattle.std.proofs.Math.Seq.{take-length}
use Rattle.script_lex.specs.Joined.{after_blanks, joined_words}
use Rattle.script_writer.specs.Line.{AreShort, IsShort, spelled, total_width, width}
use Rattle.script_writer.specs.declared.line.Word.{Word}

pub width_more : (words : List Word) (i : ℕ) (w d : Word) → i < length words → w ≡ get_or words i d → total_width (take (suc i) words) ≡ total_width (take i words) + width w
width_more [] i w d lt is = absurd (omega arith)
width_more (x ∷ words) zero w d lt is = let same = ap width is in omega (arith, same)
width_more (x ∷ words) (suc i) w d lt is = let rest = width_more words i w d (omega arith) is in omega (arith, rest)

pub blanks_more : (words : List Word) (i : ℕ) (w d : Word) → i < length words → w ≡ get_or words i d
    → after_blanks (map spelled (take i words)) ++ (32 ∷ spelled w) ≡ after_blanks (map spelled (take (suc i) words))
blanks_more [] i w d lt is = absurd (omega arith)
blanks_more (x ∷ words) zero w d lt is = ap (λ (v : Word). 32 ∷ spelled v) is ∙ ap (λ (t : List ℕ). 32 ∷ t) (sym (append-nil (spelled x)))
blanks_more (x ∷ words) (suc i) w d lt is =
    ap (λ (t : List ℕ). 32 ∷ t) (append_assoc (spelled x) (after_blanks (map spelled (take i words))) (32 ∷ spelled w)
    ∙ ap (λ (t : List ℕ). spelled x ++ t) (blanks_more words i w d (omega arith) is))

-- one more word takes no more than its width
pub within_more : (words : List Word) (i : ℕ) (w d : Word) → i < length words → w ≡ get_or words i d
    → length (spelled w) < width w
    → length (after_blanks (map spelled (take i words))) ≤ total_width (take i words)
    → length (after_blanks (map spelled (take (suc i) words))) ≤ total_width (take (suc i) words)
within_more words i w d lt is short before =
    let text = blanks_more words i w d lt is in
    let both = length-append (after_blanks (map spelled (take i words))) (32 ∷ spelled w) in
    let whole = ap (λ (t : List ℕ). length t) text in
    let wide = width_more words i w d lt is in
    omega (arith, both, whole, wide, short, before)

pub short_here : (words : List Word) (i : ℕ) (w d : Word) → i < length words → w ≡ get_or words i d → AreShort (drop i words) → IsShort w × AreShort (drop (suc i) words)
short_here [] i w d lt is short = absurd (omega arith)
short_here (x ∷ words) zero w d lt is short = (subst (λ (v : Word). IsShort v) (sym is) short.0, short.1)
short_here (x ∷ words) (suc i) w d lt is short = short_here words i w d (omega arith) is short

-- the first word, and the others with a blank before each
pub joined_first : (words : List Word) (w d : Word) → 0 < length words → w ≡ get_or words 0 d
    → spelled w ++ after_blanks (map spelled (take (length words - 1) (drop 1 words))) ≡ joined_words (map spelled words)
joined_first [] w d lt is = absurd (omega arith)
joined_first (x ∷ words) w d lt is =
    let rest : length (x ∷ words) - 1 ≡ length words = omega arith in
    ap (λ (v : Word). spelled v ++ after_blanks (map spelled (take (length (x ∷ words) - 1) words))) is
    ∙ ap (λ (n : ℕ). spelled x ++ after_blanks (map spelled (take n words))) rest
    ∙ ap (λ (ws : List Word). spelled x ++ after_blanks (map spelled ws)) (take-length words)

-- the first word, and the others with a blank before each, within their widths
pub joined_within : (words : List Word) (w d : Word) → 0 < length words → w ≡ get_or words 0 d → length (spelled w) < width w
    → (let rest = take (length words - 1) (drop 1 words) in length (after_blanks (map spelled rest)) ≤ total_width rest)
    → length (joined_words (map spelled words)) ≤ total_width words
joined_within [] w d lt is short within = absurd (omega arith)
joined_within (x ∷ words) w d lt is short within =
    let rest : length (x ∷ words) - 1 ≡ length words = omega arith in
    let all : take (length (x ∷ words) - 1) words ≡ words = ap (λ (n : ℕ). take n words) rest ∙ take-length words in
    let behind : length (after_blanks (map spelled words)) ≤ total_width words =
    subst (λ (ws : List Word). length (after_blanks (map spelled ws)) ≤ total_width ws) all within in
    let first : length (spelled x) < width x = subst (λ (v : Word). length (spelled v) < width v) is short in
    let both = length-append (spelled x) (after_blanks (map spelled words)) in
    omega (arith, first, behind, both)

-- the widths that are left, with that of the next word apart
pub width_left : (words : List Word) (i : ℕ) (w d : Word) → i < length words → w ≡ get_or words i d → total_width (drop i words) ≡ width w + total_width (drop (suc i) words)
width_left [] i w d lt is = absurd (omega arith)
width_left (x ∷ words) zero w d lt is = let same = ap width is in omega (arith, same)
width_left (x ∷ words) (suc i) w d lt is = width_left words i w d (omega arith) is

-- behind a first word the others are left whole
pub rest_is : (words : List Word) → 0 < length words → take (length words - 1) (drop 1 words) ≡ drop 1 words
rest_is [] lt = absurd (omega arith)
rest_is (x ∷ words) lt =
    let rest : length (x ∷ words) - 1 ≡ length words = omega arith in
    ap (λ (n : ℕ). take n words) rest ∙ take-length words
