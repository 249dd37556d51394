-- Each word of a line is the slice that begins at its place.
use Rattle.std.proofs.Common.{◌≡◌, ℕ, suc, ◌+◌, List, [], ◌∷◌, ◌++◌, length, take, drop, refl, sym, ◌∙◌, ap, subst, Bool, true, false, not}
use Rattle.std.specs.Prelude.{◌==◌}
use Rattle.std.specs.List.{prefix_len}
use Rattle.std.proofs.lemmas.List.{take-append-drop, drop-drop}
use Rattle.script_lex.specs.Words.{is_blank, onto_first, words_of, starts_of, before_comment, line_words, line_places, StandAt}
use Rattle.script_lex.proofs.Split.{no_words, word_more, word_skips, word_ends, word_alone}
use Rattle.script_lex.proofs.Places.{blank_skips, ink_skips, word_begins, nothing_begins}

-- what stands at a place of the whole line
abbrev At : List ℕ → ℕ → List ℕ → Type 0
At whole at bytes = drop at whole ≡ bytes

after_it : (whole : List ℕ) (at c : ℕ) (cs : List ℕ) → At whole at (c ∷ cs) → At whole (at + 1) cs
after_it whole at c cs h = sym (drop-drop 1 at whole) ∙ ap (λ xs. drop 1 xs) h

longer : (whole : List ℕ) (at c : ℕ) (cs : List ℕ) (ws : List (List ℕ)) (ps : List ℕ) → At whole at (c ∷ cs) → StandAt whole ws ((at + 1) ∷ ps) → StandAt whole (onto_first c ws) (at ∷ ps)
longer whole at c cs [] ps h stand = absurd stand
longer whole at c cs (w ∷ ws) ps h stand =
    let here : take (suc (length w)) (drop at whole) ≡ c ∷ take (length w) cs = ap (λ xs. take (suc (length w)) xs) h in
    let next : take (length w) cs ≡ w = ap (λ xs. take (length w) xs) (sym (after_it whole at c cs h)) ∙ stand.0 in
    (here ∙ ap (λ xs. c ∷ xs) next, stand.1)

-- the claim for the words of what stands at a place
abbrev Claim : List ℕ → Bool → ℕ → List ℕ → Type 0
Claim whole after at line = StandAt whole (words_of line) (starts_of after at line)

none : (whole : List ℕ) (at : ℕ) → Claim whole true at []
none whole at = rw (no_words, nothing_begins true at) tt

one : (whole post : List ℕ) (at c : ℕ) → is_blank c ≡ false → At whole at (c ∷ post) → Claim whole true at (c ∷ [])
one whole post at c ink h =
    let starts : starts_of true at (c ∷ []) ≡ at ∷ [] = word_begins at c [] ink ∙ ap (λ ps. at ∷ ps) (nothing_begins false (at + 1)) in
    rw (word_alone c ink, no_words, starts) (ap (λ xs. take 1 xs) h, tt)

step : (b d : Bool) (whole post : List ℕ) (at c e : ℕ) (cs : List ℕ) → is_blank c ≡ b → is_blank e ≡ d → At whole at (c ∷ e ∷ (cs ++ post)) → Claim whole true (at + 1) (e ∷ cs) → Claim whole true at (c ∷ e ∷ cs)
step true d whole post at c e cs blank next h ih = rw (word_skips c (e ∷ cs) blank, blank_skips true at c (e ∷ cs) blank) ih
step false true whole post at c e cs ink next h ih =
    let same : starts_of false (at + 1) (e ∷ cs) ≡ starts_of true (at + 1) (e ∷ cs) = blank_skips false (at + 1) e cs next ∙ sym (blank_skips true (at + 1) e cs next) in
    rw (word_ends c e cs ink next, word_begins at c (e ∷ cs) ink, same) (ap (λ xs. take 1 xs) h, ih)
step false false whole post at c e cs ink next h ih =
    let stand = subst (λ ps. StandAt whole (words_of (e ∷ cs)) ps) (word_begins (at + 1) e cs next) ih in
    rw (word_more c e cs ink next, word_begins at c (e ∷ cs) ink, ink_skips (at + 1) e cs next)
    (longer whole at c (e ∷ (cs ++ post)) (words_of (e ∷ cs)) (starts_of false (at + 1 + 1) cs) h stand)

only : (b : Bool) (whole post : List ℕ) (at c : ℕ) → is_blank c ≡ b → At whole at (c ∷ post) → Claim whole true at (c ∷ [])
only true whole post at c blank h = rw (word_skips c [] blank, blank_skips true at c [] blank) (none whole (at + 1))
only false whole post at c ink h = one whole post at c ink h

stand : (whole line post : List ℕ) (at : ℕ) → At whole at (line ++ post) → Claim whole true at line
stand whole [] post at h = none whole at
stand whole (c ∷ []) post at h = only (is_blank c) whole post at c refl h
stand whole (c ∷ e ∷ cs) post at h =
    step (is_blank c) (is_blank e) whole post at c e cs refl refl h (stand whole (e ∷ cs) post (at + 1) (after_it whole at c (e ∷ (cs ++ post)) h))

pub words_stand : (line : List ℕ) → StandAt line (line_words line) (line_places line)
words_stand line =
    let n : ℕ = prefix_len (λ c. not (c == 35)) line in
    stand line (before_comment line) (drop n line) 0 (sym (take-append-drop n line))
