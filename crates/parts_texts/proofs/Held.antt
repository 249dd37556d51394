-- Texts in rooms of their own: all rooms stay as large as they are.
use Rattle.std.proofs.Common.{List, [], ap, refl, suc, zero, ℕ, ◌++◌, ◌∷◌, ◌≡◌, ◌∙◌}
use Rattle.std.specs.Prelude.{map, slice_set}
use Rattle.std.proofs.lemmas.List.{map-set}
use Rattle.parts_texts.specs.Slots.{HaveRoomsOf, Held, no_texts, text_in}
use Rattle.parts_texts.specs.Texts.{Next}

-- one more
pub rooms_more : (room : ℕ) (items : List Next) (n : Next) → HaveRoomsOf room items → n.room ≡ room → HaveRoomsOf room (items ++ n ∷ [])
rooms_more room [] n h e = (e, tt)
rooms_more room (x ∷ items) n h e = (h.0, rooms_more room items n h.1 e)

texts_more : (items : List Next) (n : Next) → map text_in (items ++ n ∷ []) ≡ map text_in items ++ n.text ∷ []
texts_more [] n = refl
texts_more (x ∷ items) n = ap (λ (ts : List (List ℕ)). x.text ∷ ts) (texts_more items n)

no_more : (n : ℕ) → no_texts n ++ [] ∷ [] ≡ no_texts (suc n)
no_more zero = refl
no_more (suc n) = ap (λ (ts : List (List ℕ)). [] ∷ ts) (no_more n)

pub empty_more : (items : List Next) (count : ℕ) (n : Next) → map text_in items ≡ no_texts count → n.text ≡ [] → map text_in (items ++ n ∷ []) ≡ no_texts (suc count)
empty_more items count n h e =
    texts_more items n ∙ ap (λ (ts : List (List ℕ)). ts ++ n.text ∷ []) h ∙ ap (λ (t : List ℕ). no_texts count ++ t ∷ []) e ∙ no_more count

-- another in the place of one
pub rooms_set : (room : ℕ) (items : List Next) (i : ℕ) (n : Next) → HaveRoomsOf room items → n.room ≡ room → HaveRoomsOf room (slice_set items i n)
rooms_set room [] i n h e = tt
rooms_set room (x ∷ items) zero n h e = (e, h.1)
rooms_set room (x ∷ items) (suc i) n h e = (h.0, rooms_set room items i n h.1 e)

pub text_set : (v : Held) (items : List Next) (room i : ℕ) (n : Next) (text : List ℕ) → record { texts = map text_in items; room = room } ≡ v → n.text ≡ text
    → record { texts = map text_in (slice_set items i n); room = room } ≡ record v { texts = slice_set v.texts i text }
text_set v items room i n text is e =
    ap (λ (ts : List (List ℕ)). record { texts = ts; room = room }) (map-set text_in items i n ∙ ap (λ (t : List ℕ). slice_set (map text_in items) i t) e)
    ∙ ap (λ (h : Held). record h { texts = slice_set h.texts i text }) is
