-- Texts one behind the other: what is appended, what is ended, and which text has a number.
use Rattle.std.proofs.Common.{List, [], ap, arith, length, refl, suc, zero, ℕ, ◌+◌, ◌++◌, ◌<◌, ◌∷◌, ◌≡◌, ◌≤◌, ◌∙◌}
use Rattle.std.specs.Prelude.{drop, slice_index_or, sum_by, take, ◌-◌}
use Rattle.std.proofs.Math.Seq.{drop-append_seam}
use Rattle.std.proofs.lemmas.List.{drop-append-le, length-append, length-drop, length-take-le, take-append-le, take_rest}
use Rattle.std.proofs.lemmas.List.Sums.{sum_by-cons}
use Rattle.parts_texts.specs.Texts.{Rise, last_end, texts_from}

-- ---- the ends

-- the last one is among the bytes
pub end_within : (start : ℕ) (ends : List ℕ) (most : ℕ) → Rise start ends most → (start ≤ last_end start ends) × (last_end start ends ≤ most)
end_within start [] most h = (omega arith, h)
end_within start (end ∷ ends) most h = let r = end_within end ends most h.1 in let a = h.0 in let b = r.0 in (omega (arith, a, b), r.1)

rise_higher : (start : ℕ) (ends : List ℕ) (most more : ℕ) → most ≤ more → Rise start ends most → Rise start ends more
rise_higher start [] most more le h = omega (arith, le, h)
rise_higher start (end ∷ ends) most more le h = (h.0, rise_higher end ends most more le h.1)

rise_on : (start : ℕ) (ends : List ℕ) (most : ℕ) → Rise start ends most → Rise start (ends ++ most ∷ []) most
rise_on start [] most h = (h, omega arith)
rise_on start (end ∷ ends) most h = (h.0, rise_on end ends most h.1)

pub last_is : (start : ℕ) (ends : List ℕ) (end : ℕ) → last_end start (ends ++ end ∷ []) ≡ end
last_is start [] end = refl
last_is start (e ∷ ends) end = last_is e ends end

-- ---- the texts

pub count_is : (start : ℕ) (ends bytes : List ℕ) → length (texts_from start ends bytes) ≡ length ends
count_is start [] bytes = refl
count_is start (end ∷ ends) bytes = ap suc (count_is end ends bytes)

-- the text with a number
pub text_at : (start : ℕ) (ends bytes : List ℕ) (i : ℕ) → i < length ends
    → slice_index_or (texts_from start ends bytes) i [] ≡ take (slice_index_or ends i 0 - slice_index_or (start ∷ ends) i 0) (drop (slice_index_or (start ∷ ends) i 0) bytes)
text_at start [] bytes i lt = absurd (omega arith)
text_at start (end ∷ ends) bytes zero lt = refl
text_at start (end ∷ ends) bytes (suc i) lt = text_at end ends bytes i (omega arith)

-- more bytes behind change none
texts_kept : (start : ℕ) (ends bytes more : List ℕ) → Rise start ends (length bytes) → texts_from start ends (bytes ++ more) ≡ texts_from start ends bytes
texts_kept start [] bytes more h = refl
texts_kept start (end ∷ ends) bytes more h =
    let within = end_within end ends (length bytes) h.1 in
    let first = h.0 in
    let low = within.0 in
    let high = within.1 in
    let rest = length-drop start bytes in
    ap (λ (xs : List ℕ). take (end - start) xs ∷ texts_from end ends (bytes ++ more)) (drop-append-le start bytes more (omega (arith, first, low, high)))
    ∙ ap (λ (xs : List ℕ). xs ∷ texts_from end ends (bytes ++ more)) (take-append-le (end - start) (drop start bytes) more (omega (arith, first, low, high, rest)))
    ∙ ap (λ (ts : List (List ℕ)). take (end - start) (drop start bytes) ∷ ts) (texts_kept end ends bytes more h.1)

-- what is behind the last end becomes the last text
texts_on : (start : ℕ) (ends bytes : List ℕ) → texts_from start (ends ++ length bytes ∷ []) bytes ≡ texts_from start ends bytes ++ drop (last_end start ends) bytes ∷ []
texts_on start [] bytes = ap (λ (xs : List ℕ). xs ∷ []) (take_rest bytes start)
texts_on start (end ∷ ends) bytes = ap (λ (ts : List (List ℕ)). take (end - start) (drop start bytes) ∷ ts) (texts_on end ends bytes)

-- the texts are all bytes up to the last end
pub all_used : (start : ℕ) (ends bytes : List ℕ) → Rise start ends (length bytes) → start + sum_by length (texts_from start ends bytes) ≡ last_end start ends
all_used start [] bytes h = omega arith
all_used start (end ∷ ends) bytes h =
    let within = end_within end ends (length bytes) h.1 in
    let first = h.0 in
    let low = within.0 in
    let high = within.1 in
    let rest = length-drop start bytes in
    let one = length-take-le (end - start) (drop start bytes) (omega (arith, first, low, high, rest)) in
    let more = all_used end ends bytes h.1 in
    let first_one = sum_by-cons length (take (end - start) (drop start bytes)) (texts_from end ends bytes) in
    omega (arith, first, one, more, first_one)

-- a text is among the bytes
pub part_fits : (start : ℕ) (ends : List ℕ) (most i : ℕ) → Rise start ends most → i < length ends
    → (slice_index_or (start ∷ ends) i 0 ≤ slice_index_or ends i 0) × (slice_index_or ends i 0 ≤ most)
part_fits start [] most i h lt = absurd (omega arith)
part_fits start (end ∷ ends) most zero h lt = let within = end_within end ends most h.1 in let a = within.0 in let b = within.1 in (h.0, omega (arith, a, b))
part_fits start (end ∷ ends) most (suc i) h lt = part_fits end ends most i h.1 (omega arith)

pub part_rises : (start : ℕ) (ends : List ℕ) (most i : ℕ) → Rise start ends most → i < length ends → slice_index_or (start ∷ ends) i 0 ≤ slice_index_or ends i 0
part_rises start ends most i h lt = (part_fits start ends most i h lt).0

-- ---- one more text

pub rise_pushed : (start : ℕ) (ends bytes text : List ℕ) → Rise start ends (length bytes) → Rise start (ends ++ length (bytes ++ text) ∷ []) (length (bytes ++ text))
rise_pushed start ends bytes text h = let more = length-append bytes text in rise_on start ends (length (bytes ++ text)) (rise_higher start ends (length bytes) (length (bytes ++ text)) (omega (arith, more)) h)

pub pushed_is : (start : ℕ) (ends bytes text : List ℕ) → Rise start ends (length bytes) → last_end start ends ≡ length bytes
    → texts_from start (ends ++ length (bytes ++ text) ∷ []) (bytes ++ text) ≡ texts_from start ends bytes ++ text ∷ []
pushed_is start ends bytes text h all =
    texts_on start ends (bytes ++ text)
    ∙ ap (λ (ts : List (List ℕ)). ts ++ drop (last_end start ends) (bytes ++ text) ∷ []) (texts_kept start ends bytes text h)
    ∙ ap (λ (n : ℕ). texts_from start ends bytes ++ drop n (bytes ++ text) ∷ []) all
    ∙ ap (λ (xs : List ℕ). texts_from start ends bytes ++ xs ∷ []) (drop-append_seam bytes text)
