-- What is read through the two pointers of a cell, and what a block is after one cell was written.
use Rattle.std.proofs.Common.{◌≡◌, ℕ, zero, suc, ◌<◌, List, [], ◌∷◌, map, length, get_or, set, Option, Some, None, ◌⊎◌, inl, inr, ⊎_elim, refl, sym, ap, ◌∙◌, subst, ap₂, arith, length-set, unwrap_or, get_or-set_same, replicate, ◌+◌}
use denote.RawPtr.{Ptr}
use Rattle.parts_links.specs.Places.{IsPlace, IsFilled, index_at}
use Rattle.parts_links.specs.Rings.{Rings, alone, counted}
use Rattle.parts_links.proofs.Memory.{filled_within}
use Rattle.parts_links.specs.Block.{after_of, before_of, list_of, IsCell, IsBlock, IsAlone, IsOpened, seen}
use Rattle.parts_links.specs.declared.cells.Cells.{Cells}
use Rattle.parts_links.specs.declared.cells.Deed.{Deed}
use Rattle.parts_links.specs.declared.block.Cell.{Cell}
use Rattle.parts_links.specs.contracts.block.Cell.{the_row}

lt_or_eq : (i n : ℕ) → i < n + 1 → (i < n) ⊎ (i ≡ n)
lt_or_eq zero zero l = inr refl
lt_or_eq zero (suc n) l = inl (omega arith)
lt_or_eq (suc i) zero l = absurd (omega arith)
lt_or_eq (suc i) (suc n) l = ⊎_elim (λ e. inl (omega arith)) (λ e. inr (ap suc e)) (lt_or_eq i n (omega arith))

pub get_or_map : {X : Type 0} (f : X → ℕ) (xs : List X) (i : ℕ) (d : X) → get_or (map f xs) i (f d) ≡ f (get_or xs i d)
get_or_map f [] i d = refl
get_or_map f (x ∷ xs) zero d = refl
get_or_map f (x ∷ xs) (suc i) d = get_or_map f xs i d

pub length_map : {X : Type 0} (f : X → ℕ) (xs : List X) → length (map f xs) ≡ length xs
length_map f [] = refl
length_map f (x ∷ xs) = ap suc (length_map f xs)

pub map_set : {X : Type 0} (f : X → ℕ) (xs : List X) (i : ℕ) (x : X) → map f (set xs i x) ≡ set (map f xs) i (f x)
map_set f [] i x = refl
map_set f (y ∷ ys) zero x = refl
map_set f (y ∷ ys) (suc i) x = ap (λ zs. f y ∷ zs) (map_set f ys i x)

some_same : {X : Type 0} {x y : X} → Some x ≡ Some y → x ≡ y
some_same {x = x} e = ap (λ o. unwrap_or o x) e

module _ {A : Type 0} {base : Ptr} {cells : Cells Cell} {deed : Deed Cell A} {alloc : A} {count : ℕ} (is : IsBlock base cells deed alloc count) (i : ℕ) (c : Cell) (held : get_or cells.slots i None ≡ Some c) where
  is_cell : IsCell base count i c
  is_cell = is.each i c held

  -- a pointer that names a cell names one that is filled
  named : (p : Ptr) → IsPlace the_row base p → index_at the_row base p < count → IsPlace the_row cells.at p × IsFilled cells.slots (index_at the_row cells.at p)
  named p place inside = subst (λ a. IsPlace the_row a p × IsFilled cells.slots (index_at the_row a p)) (sym is.begins) (place, is.filled (index_at the_row base p) inside)

  -- the cell that it names has the number that the pointer says
  numbered : (p : Ptr) (d : Cell) → get_or cells.slots (index_at the_row cells.at p) None ≡ Some d → d.number ≡ index_at the_row base p
  numbered p d there = (is.each (index_at the_row cells.at p) d there).own ∙ ap (λ a. index_at the_row a p) is.begins

  pub after_named : (p : Ptr) → p ≡ c.after → IsPlace the_row cells.at p × IsFilled cells.slots (index_at the_row cells.at p)
  after_named p e = subst (λ q. IsPlace the_row cells.at q × IsFilled cells.slots (index_at the_row cells.at q)) (sym e) (named c.after is_cell.after is_cell.after_inside)

  pub before_named : (p : Ptr) → p ≡ c.before → IsPlace the_row cells.at p × IsFilled cells.slots (index_at the_row cells.at p)
  before_named p e = subst (λ q. IsPlace the_row cells.at q × IsFilled cells.slots (index_at the_row cells.at q)) (sym e) (named c.before is_cell.before is_cell.before_inside)

  seen_at : (f : Option Cell → ℕ) → f None ≡ 0 → get_or (map f cells.slots) i 0 ≡ f (Some c)
  seen_at f e = ap (λ z. get_or (map f cells.slots) i z) (sym e) ∙ get_or_map f cells.slots i None ∙ ap f held

  pub after_is : (p : Ptr) → p ≡ c.after → (d : Cell) → get_or cells.slots (index_at the_row cells.at p) None ≡ Some d → d.number ≡ get_or (map (after_of base) cells.slots) i 0
  after_is p e d there = numbered p d there ∙ ap (index_at the_row base) e ∙ sym (seen_at (after_of base) refl)

  pub before_is : (p : Ptr) → p ≡ c.before → (d : Cell) → get_or cells.slots (index_at the_row cells.at p) None ≡ Some d → d.number ≡ get_or (map (before_of base) cells.slots) i 0
  before_is p e d there = numbered p d there ∙ ap (index_at the_row base) e ∙ sym (seen_at (before_of base) refl)

  pub list_is : c.list ≡ get_or (map (list_of base) cells.slots) i 0
  list_is = sym (seen_at (list_of base) refl)

set_cases : {X : Type 0} (xs : List X) (i j : ℕ) (x d : X) → i < length xs → ((j ≡ i) × (get_or (set xs i x) j d ≡ x)) ⊎ (get_or (set xs i x) j d ≡ get_or xs j d)
set_cases [] i j x d within = absurd (omega arith)
set_cases (y ∷ ys) zero zero x d within = inl (refl, refl)
set_cases (y ∷ ys) zero (suc j) x d within = inr refl
set_cases (y ∷ ys) (suc i) zero x d within = inr refl
set_cases (y ∷ ys) (suc i) (suc j) x d within = ⊎_elim (λ e. inl (ap suc e.0, e.1)) inr (set_cases ys i j x d (omega arith))

set_same : (xs : List ℕ) (i v : ℕ) → get_or xs i 0 ≡ v → i < length xs → set xs i v ≡ xs
set_same [] i v e within = refl
set_same (x ∷ xs) zero v e within = ap (λ y. y ∷ xs) (sym e)
set_same (x ∷ xs) (suc i) v e within = ap (λ ys. x ∷ ys) (set_same xs i v e (omega arith))

module _ {A : Type 0} {base : Ptr} {cells new : Cells Cell} {deed : Deed Cell A} {alloc : A} {count : ℕ} (is : IsBlock base cells deed alloc count) (i : ℕ) (within : i < length cells.slots) (d : Cell) (at : new.at ≡ cells.at) (slots : new.slots ≡ set cells.slots i (Some d)) where
  pub written : IsCell base count i d → IsBlock base new deed alloc count
  written good = record {
    begins = at ∙ is.begins;
    counted = ap length slots ∙ length-set cells.slots i (Some d) ∙ is.counted;
    deed_at = is.deed_at;
    deed_len = is.deed_len;
    deed_alloc = is.deed_alloc;
    filled = λ j inside. subst (λ cs. IsFilled cs j) (sym slots) (⊎_elim
        (λ e. (d, e.1))
        (λ e. ((is.filled j inside).0, e ∙ (is.filled j inside).1))
        (set_cases cells.slots i j (Some d) None within));
    each = λ j c there. let there' : get_or (set cells.slots i (Some d)) j None ≡ Some c = subst (λ cs. get_or cs j None ≡ Some c) slots there in
        ⊎_elim
        (λ e. subst (λ k. IsCell base count k c) (sym e.0) (subst (IsCell base count i) (some_same (sym e.1 ∙ there')) good))
        (λ e. is.each j c (sym e ∙ there'))
        (set_cases cells.slots i j (Some d) None within);
  }

  pub map_written : (f : Option Cell → ℕ) → map f new.slots ≡ set (map f cells.slots) i (f (Some d))
  map_written f = ap (map f) slots ∙ map_set f cells.slots i (Some d)

  pub map_kept : (f : Option Cell → ℕ) → f None ≡ 0 → (c : Cell) → get_or cells.slots i None ≡ Some c → f (Some c) ≡ f (Some d) → map f new.slots ≡ map f cells.slots
  map_kept f none c held same = map_written f ∙ set_same (map f cells.slots) i (f (Some d)) (ap (λ z. get_or (map f cells.slots) i z) (sym none) ∙ get_or_map f cells.slots i None ∙ ap f held ∙ same) (subst (λ n. i < n) (sym (length_map f cells.slots)) within)

module _ {A : Type 0} {base : Ptr} {cells : Cells Cell} {deed : Deed Cell A} {alloc : A} {count : ℕ} (is : IsBlock base cells deed alloc count) where
  -- a number of a cell that is seen is one of a cell that is there
  pub inside : {r : Rings} → seen base cells.slots ≡ r → (i : ℕ) → i < length r.after → i < length cells.slots
  inside e i l = subst (λ n. i < n) (ap (λ r. length r.after) (sym e) ∙ length_map (after_of base) cells.slots) l

  -- a place of the block is one that the base counts to
  pub from_base : (p : Ptr) → IsPlace the_row cells.at p → IsPlace the_row base p
  from_base p place = subst (λ a. IsPlace the_row a p) is.begins place

  pub index_from_base : (p : Ptr) (n : ℕ) → index_at the_row cells.at p ≡ n → index_at the_row base p ≡ n
  index_from_base p n e = ap (λ a. index_at the_row a p) (sym is.begins) ∙ e

  pub held_at : (i : ℕ) (p : Ptr) (c : Cell) → index_at the_row cells.at p ≡ i → get_or cells.slots (index_at the_row cells.at p) None ≡ Some c → get_or cells.slots i None ≡ Some c
  held_at i p c at held = ap (λ k. get_or cells.slots k None) (sym at) ∙ held

  module _ (i : ℕ) (c : Cell) (held : get_or cells.slots i None ≡ Some c) where
    -- the cell with another pointer to the next cell
    pub after_set : (p : Ptr) (n : ℕ) → IsPlace the_row cells.at p → index_at the_row cells.at p ≡ n → n < length cells.slots → IsCell base count i (record c { after = p })
    after_set p n place index within = let old = is.each i c held in record { after = from_base p place; before = old.before; after_inside = subst (λ k. k < count) (sym (index_from_base p n index)) (omega (arith, is.counted)); before_inside = old.before_inside; own = old.own }

    pub before_set : (p : Ptr) (n : ℕ) → IsPlace the_row cells.at p → index_at the_row cells.at p ≡ n → n < length cells.slots → IsCell base count i (record c { before = p })
    before_set p n place index within = let old = is.each i c held in record { after = old.after; before = from_base p place; after_inside = old.after_inside; before_inside = subst (λ k. k < count) (sym (index_from_base p n index)) (omega (arith, is.counted)); own = old.own }

    pub list_set : (l : ℕ) → IsCell base count i (record c { list = l })
    list_set l = let old = is.each i c held in record { after = old.after; before = old.before; after_inside = old.after_inside; before_inside = old.before_inside; own = old.own }

-- one more cell is written
pub one_more : (base : Ptr) (cells new : Cells Cell) (count n : ℕ) (d : Cell) → IsOpened base cells count n → n < count → new.at ≡ cells.at → new.slots ≡ set cells.slots n (Some d) → IsAlone base n d
    → IsOpened base new count (n + 1)
one_more base cells new count n d was inside at slots lone = record {
  begins = at ∙ was.begins;
  counted = ap length slots ∙ length-set cells.slots n (Some d) ∙ was.counted;
  each = λ i below. subst (λ cs. (c : Cell) × (get_or cs i None ≡ Some c) × IsAlone base i c) (sym slots)
      (⊎_elim
      (λ e. (d, e.1, subst (λ k. IsAlone base k d) (sym e.0) lone))
      (λ e. ⊎_elim
      (λ less. let at_i = was.each i less in (at_i.0, e ∙ at_i.1, at_i.2))
      (λ same. (d, ap (λ k. get_or (set cells.slots n (Some d)) k None) same ∙ get_or-set_same cells.slots n (Some d) None (omega (arith, was.counted)), subst (λ k. IsAlone base k d) (sym same) lone))
      (lt_or_eq i n (omega arith)))
      (set_cases cells.slots n i (Some d) None (omega (arith, was.counted))));
}

pub none_yet : (base : Ptr) (cells : Cells Cell) (count : ℕ) → cells.at ≡ base → length cells.slots ≡ count → IsOpened base cells count 0
none_yet base cells count at long = record { begins = at; counted = long; each = λ i below. absurd (omega arith) }

map_counted : {X : Type 0} (f : X → ℕ) (xs : List X) (from : ℕ) (d : X) → ((i : ℕ) → i < length xs → f (get_or xs i d) ≡ from + i) → map f xs ≡ counted from (length xs)
map_counted f [] from d each = refl
map_counted f (x ∷ xs) from d each = ap₂ (λ n ns. n ∷ ns) (let e : f x ≡ from + 0 = each 0 (omega arith) in omega (arith, e)) (map_counted f xs (suc from) d (λ i below. let e : f (get_or xs i d) ≡ from + suc i = each (suc i) (omega arith) in omega (arith, e)))

map_zero : {X : Type 0} (f : X → ℕ) (xs : List X) (d : X) → ((i : ℕ) → i < length xs → f (get_or xs i d) ≡ 0) → map f xs ≡ replicate (length xs) 0
map_zero f [] d each = refl
map_zero f (x ∷ xs) d each = ap₂ (λ n ns. n ∷ ns) (each 0 (omega arith)) (map_zero f xs d (λ i below. each (suc i) (omega arith)))

module _ (base : Ptr) (cells : Cells Cell) (count : ℕ) (all : IsOpened base cells count count) where
  pub opened : {A : Type 0} (deed : Deed Cell A) (alloc : A) → deed.at ≡ base → deed.len ≡ count → deed.alloc ≡ alloc → IsBlock base cells deed alloc count
  opened deed alloc at len by = record {
    begins = all.begins;
    counted = all.counted;
    deed_at = at;
    deed_len = len;
    deed_alloc = by;
    filled = λ i inside. ((all.each i inside).0, (all.each i inside).1);
    each = λ i c held. let inside : i < count = omega (arith, all.counted, filled_within cells.slots i c held) in let lone = (all.each i inside).2 in
        subst (IsCell base count i) (some_same (sym (all.each i inside).1 ∙ held))
        (record { after = lone.after; before = lone.before; after_inside = omega (arith, lone.after_is, inside); before_inside = omega (arith, lone.before_is, inside); own = lone.own });
  }

  pub seen_alone : seen base cells.slots ≡ alone count
  seen_alone =
      let told = λ (f : Option Cell → ℕ) (i : ℕ) (inside : i < length cells.slots). ap f (all.each i (omega (arith, all.counted))).1 in
      let lone = λ (i : ℕ) (inside : i < length cells.slots). (all.each i (omega (arith, all.counted))).2 in
      (λ j. record {
        after = map_counted (after_of base) cells.slots 0 None (λ i inside. let e : after_of base (get_or cells.slots i None) ≡ i = told (after_of base) i inside ∙ (lone i inside).after_is in omega (arith, e)) j;
        before = map_counted (before_of base) cells.slots 0 None (λ i inside. let e : before_of base (get_or cells.slots i None) ≡ i = told (before_of base) i inside ∙ (lone i inside).before_is in omega (arith, e)) j;
        list = map_zero (list_of base) cells.slots None (λ i inside. told (list_of base) i inside ∙ (lone i inside).list) j;
      }) ∙ ap alone all.counted
