-- The place of the first word of a line.
use Rattle.std.proofs.Common.{◌≡◌, ◌<◌, ℕ, suc, ◌+◌, List, [], ◌∷◌, length, take, drop, refl, sym, ◌∙◌, ap, subst, arith, Bool, true, false, not, length-drop}
use Rattle.std.proofs.lemmas.List.Folds.{length-prefix_len}
use Rattle.std.specs.List.{prefix_len}
use Rattle.script_lex.specs.Words.{is_blank, starts_of, places_of}
use Rattle.script_lex.proofs.Split.{passes, stops, in_word}

pub blank_skips : (after : Bool) (at c : ℕ) (cs : List ℕ) → is_blank c ≡ true → starts_of after at (c ∷ cs) ≡ starts_of true (at + 1) cs
unfolding starts_of
blank_skips after at c cs e = rw e refl

pub ink_skips : (at c : ℕ) (cs : List ℕ) → is_blank c ≡ false → starts_of false at (c ∷ cs) ≡ starts_of false (at + 1) cs
unfolding starts_of
ink_skips at c cs e = rw e refl

pub word_begins : (at c : ℕ) (cs : List ℕ) → is_blank c ≡ false → starts_of true at (c ∷ cs) ≡ at ∷ starts_of false (at + 1) cs
unfolding starts_of
word_begins at c cs e = rw e refl

pub nothing_begins : (after : Bool) (at : ℕ) → starts_of after at [] ≡ []
unfolding starts_of
nothing_begins after at = refl

-- behind k bytes
abbrev Behind : Bool → ℕ → List ℕ → ℕ → Type 0
Behind after at line k = starts_of after at line ≡ starts_of true (at + k) (drop k line)

ink_case : (b : Bool) (at c : ℕ) (cs : List ℕ) → is_blank c ≡ b → Behind false (at + 1) cs (prefix_len in_word cs) → Behind false at (c ∷ cs) (prefix_len in_word (c ∷ cs))
ink_case false at c cs e ih =
    let n : ℕ = prefix_len in_word cs in
    let sum : at + 1 + n ≡ at + suc n = omega arith in
    subst (Behind false at (c ∷ cs)) (sym (passes in_word c cs (ap not e)))
    (ink_skips at c cs e ∙ ih ∙ ap (λ p. starts_of true p (drop n cs)) sum)
ink_case true at c cs e ih =
    let same : at ≡ at + 0 = omega arith in
    subst (Behind false at (c ∷ cs)) (sym (stops in_word c cs (ap not e)))
    (blank_skips false at c cs e ∙ sym (blank_skips true at c cs e) ∙ ap (λ p. starts_of true p (c ∷ cs)) same)

ink_first : (at : ℕ) (line : List ℕ) → Behind false at line (prefix_len in_word line)
ink_first at [] = nothing_begins false at ∙ sym (nothing_begins true (at + 0))
ink_first at (c ∷ cs) = ink_case (is_blank c) at c cs refl (ink_first (at + 1) cs)

-- the first word stands behind k blanks
abbrev PlaceAt : ℕ → List ℕ → ℕ → Type 0
PlaceAt at line k = 0 < length (drop k line) → places_of at line ≡ (at + k) ∷ places_of (at + k + prefix_len in_word (drop k line)) (drop (prefix_len in_word (drop k line)) (drop k line))

place_here : (at c : ℕ) (cs : List ℕ) → is_blank c ≡ false → places_of at (c ∷ cs) ≡ (at + 0) ∷ places_of (at + 0 + prefix_len in_word (c ∷ cs)) (drop (prefix_len in_word (c ∷ cs)) (c ∷ cs))
place_here at c cs e =
    let n : ℕ = prefix_len in_word cs in
    let here : at ≡ at + 0 = omega arith in
    let sum : at + 1 + n ≡ at + 0 + suc n = omega arith in
    let rest = ink_first (at + 1) cs ∙ ap (λ p. starts_of true p (drop n cs)) sum in
    subst (λ k. places_of at (c ∷ cs) ≡ (at + 0) ∷ places_of (at + 0 + k) (drop k (c ∷ cs))) (sym (passes in_word c cs (ap not e)))
    (word_begins at c cs e ∙ ap (λ ps. at ∷ ps) rest ∙ ap (λ p. p ∷ starts_of true (at + 0 + suc n) (drop n cs)) here)

place_case : (b : Bool) (at c : ℕ) (cs : List ℕ) → is_blank c ≡ b → PlaceAt (at + 1) cs (prefix_len is_blank cs) → PlaceAt at (c ∷ cs) (prefix_len is_blank (c ∷ cs))
place_case true at c cs e ih =
    let n : ℕ = prefix_len is_blank cs in
    let sum : at + 1 + n ≡ at + suc n = omega arith in
    let k : ℕ = prefix_len in_word (drop n cs) in
    subst (PlaceAt at (c ∷ cs)) (sym (passes is_blank c cs e))
    (λ some. blank_skips true at c cs e ∙ subst (λ p. starts_of true (at + 1) cs ≡ p ∷ places_of (p + k) (drop k (drop n cs))) sum (ih some))
place_case false at c cs e ih = subst (PlaceAt at (c ∷ cs)) (sym (stops is_blank c cs e)) (λ some. place_here at c cs e)

place_first : (at : ℕ) (line : List ℕ) → PlaceAt at line (prefix_len is_blank line)
place_first at [] some = absurd (omega arith)
place_first at (c ∷ cs) some = place_case (is_blank c) at c cs refl (place_first (at + 1) cs) some

pub place_at : (at : ℕ) (line : List ℕ) (start k : ℕ) → start < length line → start ≡ prefix_len is_blank line → k ≡ prefix_len in_word (drop start line) → places_of at line ≡ (at + start) ∷ places_of (at + start + length (take k (drop start line))) (drop k (drop start line))
place_at at line start k some is long =
    let h : PlaceAt at line start = subst (PlaceAt at line) (sym is) (place_first at line) in
    let room : 0 < length (drop start line) = omega (arith, length-drop start line) in
    let all = length-prefix_len in_word (drop start line) in
    subst (λ n. places_of at line ≡ (at + start) ∷ places_of (at + start + length (take n (drop start line))) (drop n (drop start line))) (sym long)
    (h room ∙ ap (λ n. (at + start) ∷ places_of (at + start + n) (drop (prefix_len in_word (drop start line)) (drop start line))) (sym all))
