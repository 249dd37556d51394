-- Lines that are put together by writes at places of one buffer.
use Rattle.std.proofs.Common.{◌<◌, ◌/◌, ◌%◌, ◌^◌, decimal, ◌≡◌, ℕ, ◌+◌, ◌-◌, ◌≤◌, List, [], ◌∷◌, ◌++◌, length, refl, ap, sym, ◌∙◌, arith, append_assoc, length-append, subst}
use Rattle.itoa.proofs.Decimal.{pair, decimal_pair}
use Rattle.std.specs.List.{join_with_byte}
use Rattle.parts_tracer.specs.Placed.{AreShared, words_behind}
use Rattle.words_trace.specs.Text.{line_of_words}
use Rattle.parts_tracer.specs.ShortLines.{AreWhole}
use Rattle.parts_tracer.proofs.ShortLines.{ended_is_whole}

-- a time of a hundred is the digits that these share and two more
pub time_by_pair : (digits : List ℕ) (now first : ℕ) → now < 2 ^ 64 → first ≤ now → now - first < 100 → AreShared digits first
    → digits ++ pair (now - first) ≡ decimal now
time_by_pair digits now first fits behind near (ends, some, shared) =
    let same : first / 100 ≡ now / 100 = omega arith in
    let last : now - first ≡ now % 100 = omega arith in
    ap (λ (t : List ℕ). t ++ pair (now - first)) (shared ∙ ap decimal same) ∙ ap (λ (n : ℕ). decimal (now / 100) ++ pair n) last
    ∙ sym (decimal_pair now (omega arith) fits)

-- the words of a line, the first without a blank
pub line_by_words : (word : List ℕ) (words : List (List ℕ)) → line_of_words (word ∷ words) ≡ word ++ words_behind words
line_by_words word [] = refl
line_by_words word (next ∷ words) =
    append_assoc word (32 ∷ join_with_byte 32 (next ∷ words)) (10 ∷ []) ∙ ap (λ t. word ++ 32 ∷ t) (line_by_words next words)

-- a line that is short enough is whole
pub line_is_whole : (text : List ℕ) (words : List (List ℕ)) → text ≡ line_of_words words → length text ≤ 256 → AreWhole text
line_is_whole text words same short =
    let all = join_with_byte 32 words in
    let long : length text ≡ length all + 1 = ap length same ∙ length-append all (10 ∷ []) in
    subst AreWhole (sym same) (ended_is_whole all (omega arith))
