-- The signals of a set, one after another.
use Rattle.std.proofs.Common.{◌≡◌, ℕ, zero, suc, ◌+◌, List, [], ◌∷◌, ◌++◌, refl, sym, ◌∙◌, ap, Bool, true, false, arith, append_assoc, append-nil}
use Rattle.std.specs.Prelude.{map, cond}
use Rattle.std.specs.List.{filter, range_with_len}
use Rattle.std.proofs.lemmas.List.{map_push}
use Rattle.std.proofs.lemmas.List.Elements.{filter-append}
use Rattle.words_numbers.specs.Signals.{has_signal}
use Rattle.script_writer.specs.Words.{after_commas, joined_by_commas, is_nil, listed}
use Rattle.words_numbers.specs.Words.{signal_word}

range_more : (a n : ℕ) → range_with_len a (suc n) ≡ range_with_len a n ++ (a + n) ∷ []
range_more a zero = let same : a ≡ a + 0 = omega arith in ap (λ x. x ∷ []) same
range_more a (suc n) =
    let same : a + 1 + n ≡ a + suc n = omega arith in
    ap (λ xs. a ∷ xs) (range_more (a + 1) n ∙ ap (λ x. range_with_len (a + 1) n ++ x ∷ []) same)

after_more : (ws : List (List ℕ)) (w : List ℕ) → after_commas (ws ++ w ∷ []) ≡ after_commas ws ++ 44 ∷ w
after_more [] w = ap (λ r. 44 ∷ r) (append-nil w)
after_more (x ∷ ws) w = ap (λ r. 44 ∷ (x ++ r)) (after_more ws w) ∙ sym (append_assoc (44 ∷ x) (after_commas ws) (44 ∷ w))

joined_more : (ws : List (List ℕ)) (w : List ℕ) → joined_by_commas (ws ++ w ∷ []) ≡ joined_by_commas ws ++ listed (is_nil ws) w
joined_more [] w = append-nil w
joined_more (x ∷ ws) w = ap (λ r. x ++ r) (after_more ws w) ∙ sym (append_assoc x (after_commas ws) (44 ∷ w))

is_nil-map : (f : ℕ → List ℕ) (xs : List ℕ) → is_nil (map f xs) ≡ is_nil xs
is_nil-map f [] = refl
is_nil-map f (x ∷ xs) = refl

not_nil : (xs : List ℕ) (x : ℕ) → is_nil (xs ++ x ∷ []) ≡ false
not_nil [] x = refl
not_nil (y ∷ xs) x = refl

-- the signals of a set below a number, rising
abbrev pub signals_below : ℕ → ℕ → List ℕ
signals_below set sig = filter (has_signal set) (range_with_len 0 sig)

below_more : (set sig : ℕ) → signals_below set (sig + 1) ≡ signals_below set sig ++ cond (has_signal set sig) (sig ∷ []) []
below_more set sig =
    let next : sig + 1 ≡ suc sig = omega arith in
    let number : 0 + sig ≡ sig = omega arith in
    ap (signals_below set) next ∙ ap (λ xs. filter (has_signal set) xs) (range_more 0 sig)
    ∙ filter-append (has_signal set) (range_with_len 0 sig) ((0 + sig) ∷ [])
    ∙ ap (λ x. signals_below set sig ++ cond (has_signal set x) (x ∷ []) []) number

pub below_with : (set sig : ℕ) → has_signal set sig ≡ true → signals_below set (sig + 1) ≡ signals_below set sig ++ sig ∷ []
below_with set sig e = below_more set sig ∙ ap (λ b. signals_below set sig ++ cond b (sig ∷ []) []) e

pub below_without : (set sig : ℕ) → has_signal set sig ≡ false → signals_below set (sig + 1) ≡ signals_below set sig
below_without set sig e = below_more set sig ∙ ap (λ b. signals_below set sig ++ cond b (sig ∷ []) []) e ∙ append-nil (signals_below set sig)

-- a line with the signals below a number, and then the signal of that number
pub text_with : (start line more : List ℕ) (set sig : ℕ) (is_first : Bool)
    → line ≡ start ++ joined_by_commas (map signal_word (signals_below set sig)) → is_first ≡ is_nil (signals_below set sig)
    → more ≡ line ++ listed is_first (signal_word sig) → has_signal set sig ≡ true
    → more ≡ start ++ joined_by_commas (map signal_word (signals_below set (sig + 1)))
text_with start line more set sig is_first text first added has =
    let before = map signal_word (signals_below set sig) in
    let first' : is_first ≡ is_nil before = first ∙ sym (is_nil-map signal_word (signals_below set sig)) in
    let whole : joined_by_commas (map signal_word (signals_below set (sig + 1))) ≡ joined_by_commas before ++ listed is_first (signal_word sig) =
    ap (λ xs. joined_by_commas (map signal_word xs)) (below_with set sig has)
    ∙ ap joined_by_commas (map_push signal_word (signals_below set sig) sig)
    ∙ joined_more before (signal_word sig) ∙ ap (λ b. joined_by_commas before ++ listed b (signal_word sig)) (sym first') in
    added ∙ ap (λ xs. xs ++ listed is_first (signal_word sig)) text
    ∙ append_assoc start (joined_by_commas before) (listed is_first (signal_word sig)) ∙ ap (λ xs. start ++ xs) (sym whole)

pub first_with : (set sig : ℕ) → has_signal set sig ≡ true → false ≡ is_nil (signals_below set (sig + 1))
first_with set sig has = sym (ap is_nil (below_with set sig has) ∙ not_nil (signals_below set sig) sig)
