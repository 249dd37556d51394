-- The least kind of two lists, and of places one after another.
use Rattle.std.proofs.Common.{◌≡◌, ℕ, List, [], ◌∷◌, ◌++◌, ◌+◌, ◌<◌, length, drop, map, get_or, drop-cons, add-one, refl, ap, Bool, true, false, Option, None, Some, sym, ◌∙◌, arith}
use Rattle.std.specs.Prelude.{nat_lt, cond, option_to_list}
use Rattle.std.proofs.lemmas.Bool.Decides.{nat_tests}
use Rattle.script_table.specs.declared.faults.FaultKind.{FaultKind}
use Rattle.script_table.specs.Faults.{number_of, lesser, lesser_first, least_kind}
use Rattle.script_table.specs.declared.pattern.Place.{Place}
use Rattle.script_table.specs.Patterns.{Spot, spot_of}
use Rattle.script_table.specs.LineFaults.{place_faults, stands, fits}

abbrev pick : {A : Type 0} → (A → ℕ) → A → A → A
pick n a b = cond (nat_lt (n b) (n a)) b a

assoc_by : {A : Type 0} (n : A → ℕ) (a b c : A) (x y z : Bool) → nat_lt (n b) (n a) ≡ x → nat_lt (n c) (n b) ≡ y → nat_lt (n c) (n a) ≡ z → pick n (pick n a b) c ≡ pick n a (pick n b c)
assoc_by n a b c true true z e f g = let h : nat_lt (n c) (n a) ≡ true = grind (arith, nat_tests) in simp (e, f, h)
assoc_by n a b c true false z e f g = simp (e, f)
assoc_by n a b c false true true e f g = simp (e, f, g)
assoc_by n a b c false true false e f g = simp (e, f, g)
assoc_by n a b c false false true e f g = absurd (grind (arith, nat_tests))
assoc_by n a b c false false false e f g = simp (e, f, g)

lesser-assoc : (a b c : FaultKind) → lesser (lesser a b) c ≡ lesser a (lesser b c)
lesser-assoc a b c = assoc_by number_of a b c (nat_lt (number_of b) (number_of a)) (nat_lt (number_of c) (number_of b)) (nat_lt (number_of c) (number_of a)) refl refl refl

pub lesser_first-assoc : (a b c : Option FaultKind) → lesser_first (lesser_first a b) c ≡ lesser_first a (lesser_first b c)
lesser_first-assoc None b c = refl
lesser_first-assoc (Some a) None c = refl
lesser_first-assoc (Some a) (Some b) None = refl
lesser_first-assoc (Some a) (Some b) (Some c) = ap Some (lesser-assoc a b c)

pub least_kind-append : (xs ys : List FaultKind) → least_kind (xs ++ ys) ≡ lesser_first (least_kind xs) (least_kind ys)
least_kind-append [] ys = refl
least_kind-append (x ∷ xs) ys = ap (lesser_first (Some x)) (least_kind-append xs ys) ∙ sym (lesser_first-assoc (Some x) (least_kind xs) (least_kind ys))

pub nothing_more : (found : Option FaultKind) → lesser_first found None ≡ found
nothing_more None = refl
nothing_more (Some k) = refl

first_kind : (here : Option FaultKind) (ks : List FaultKind) → least_kind (option_to_list here ++ ks) ≡ lesser_first here (least_kind ks)
first_kind None ks = refl
first_kind (Some k) ks = refl

-- past one place and its word
pub past_place : (test : Spot → List ℕ → Option FaultKind) (found here now all : Option FaultKind) (spots rest : List Spot) (words ahead : List (List ℕ)) (spot : Spot) (word : List ℕ) →
    spots ≡ spot ∷ rest → words ≡ word ∷ ahead → here ≡ test spot word → now ≡ lesser_first found here →
    lesser_first found (least_kind (place_faults test spots words)) ≡ all → lesser_first now (least_kind (place_faults test rest ahead)) ≡ all
past_place test found here now all spots rest words ahead spot word is_spots is_words is_here is_now so_far =
    let whole : lesser_first found (least_kind (place_faults test (spot ∷ rest) (word ∷ ahead))) ≡ all = rw (is_spots, is_words) at so_far in
    ap (λ o. lesser_first o (least_kind (place_faults test rest ahead))) (is_now ∙ ap (lesser_first found) is_here)
    ∙ (lesser_first-assoc found (test spot word) (least_kind (place_faults test rest ahead))
    ∙ (ap (lesser_first found) (sym (first_kind (test spot word) (place_faults test rest ahead))) ∙ whole))

-- behind the last word
pub no_word : (test : Spot → List ℕ → Option FaultKind) (found all : Option FaultKind) (spots : List Spot) (words : List (List ℕ)) →
    words ≡ [] → lesser_first found (least_kind (place_faults test spots words)) ≡ all → found ≡ all
no_word test found all [] words e so_far = sym (nothing_more found) ∙ so_far
no_word test found all (spot ∷ spots) words e so_far = sym (nothing_more found) ∙ (ap (λ ws. lesser_first found (least_kind (place_faults test (spot ∷ spots) ws))) (sym e) ∙ so_far)

pub next_spot : (places : List Place) (i : ℕ) (d : Place) → i < length places → map spot_of (drop i places) ≡ spot_of (get_or places i d) ∷ map spot_of (drop (i + 1) places)
next_spot places i d lt = rw add-one (ap (map spot_of) (drop-cons places i d lt))

-- a line that ends before a place
pub too_short : (spots rest : List Spot) (spot : Spot) (words : List (List ℕ)) (all : Bool) → spots ≡ spot ∷ rest → words ≡ [] → fits spots words ≡ all → false ≡ all
too_short spots rest spot words all is_spots none so_far = rw (is_spots, none) at so_far

-- past a place where its word stands
pub past_fit : (spots rest : List Spot) (spot : Spot) (words ahead : List (List ℕ)) (word : List ℕ) (all : Bool) → spots ≡ spot ∷ rest → words ≡ word ∷ ahead → stands spot word ≡ true → fits spots words ≡ all → fits rest ahead ≡ all
past_fit spots rest spot words ahead word all is_spots is_words here so_far = rw (is_spots, is_words, here) at so_far
