-- A block after some of its cells were written through the pointers of one of them.
use Rattle.std.proofs.Common.{◌≡◌, ℕ, ◌<◌, map, length, get_or, set, Some, None, refl, sym, ap, ◌∙◌, subst, arith}
use denote.RawPtr.{Ptr}
use Rattle.parts_links.specs.Places.{IsPlace, IsFilled, index_at}
use Rattle.parts_links.specs.Rings.{Rings, joined, with_list}
use Rattle.parts_links.specs.Block.{after_of, before_of, list_of, IsCell, IsBlock, seen}
use Rattle.parts_links.specs.declared.cells.Cells.{Cells}
use Rattle.parts_links.specs.declared.cells.Deed.{Deed}
use Rattle.parts_links.specs.declared.block.Cell.{Cell}
use Rattle.parts_links.specs.contracts.block.Cell.{the_row}
use Rattle.parts_links.proofs.Memory.{filled_within}
use Rattle.parts_links.proofs.Blocks.{get_or_map, map_kept, map_written, written}

module _ {A : Type 0} {base : Ptr} {cells : Cells Cell} {deed : Deed Cell A} {alloc : A} {count : ℕ} (is : IsBlock base cells deed alloc count) where
  -- a pointer that names a cell names one that is filled
  pub pointed : (p : Ptr) → IsPlace the_row base p → index_at the_row base p < count → IsPlace the_row cells.at p × IsFilled cells.slots (index_at the_row cells.at p)
  pointed p place inside = subst (λ a. IsPlace the_row a p × IsFilled cells.slots (index_at the_row a p)) (sym is.begins) (place, is.filled (index_at the_row base p) inside)

  pub writable : (p : Ptr) → IsPlace the_row base p → index_at the_row base p < count → IsPlace the_row cells.at p × (index_at the_row cells.at p < length cells.slots)
  writable p place inside = subst (λ a. IsPlace the_row a p × (index_at the_row a p < length cells.slots)) (sym is.begins) (place, omega (arith, inside, is.counted))

  module _ (q : Ptr) (c : Cell) (got : get_or cells.slots (index_at the_row cells.at q) None ≡ Some c) where
    abbrev i : ℕ
    i = index_at the_row base q

    here : index_at the_row cells.at q ≡ i
    here = ap (λ a. index_at the_row a q) is.begins

    held : get_or cells.slots i None ≡ Some c
    held = ap (λ k. get_or cells.slots k None) (sym here) ∙ got

    within : i < length cells.slots
    within = filled_within cells.slots i c held

    pub is_cell : IsCell base count i c
    is_cell = is.each i c held

    -- its pointer to the next cell is written
    pub after_written : {new : Cells Cell} → new.at ≡ cells.at → (p : Ptr) → IsPlace the_row base p → index_at the_row base p < count → new.slots ≡ set cells.slots (index_at the_row cells.at q) (Some (record c { after = p })) →
        IsBlock base new deed alloc count × (seen base new.slots ≡ record (seen base cells.slots) { after = set (map (after_of base) cells.slots) i (index_at the_row base p) })
    after_written at p place inside put =
        let d = record c { after = p } in let old = is_cell in
        let slots = put ∙ ap (λ k. set cells.slots k (Some d)) here in
        let kept = map_kept is i within d at slots in (
          written is i within d at slots (record { after = place; before = old.before; after_inside = inside; before_inside = old.before_inside; own = old.own }),
          λ j. record { after = map_written is i within d at slots (after_of base) j; before = kept (before_of base) refl c held refl j; list = kept (list_of base) refl c held refl j },
        )

    -- its pointer to the cell before it is written
    pub before_written : {new : Cells Cell} → new.at ≡ cells.at → (p : Ptr) → IsPlace the_row base p → index_at the_row base p < count → new.slots ≡ set cells.slots (index_at the_row cells.at q) (Some (record c { before = p })) →
        IsBlock base new deed alloc count × (seen base new.slots ≡ record (seen base cells.slots) { before = set (map (before_of base) cells.slots) i (index_at the_row base p) })
    before_written at p place inside put =
        let d = record c { before = p } in let old = is_cell in
        let slots = put ∙ ap (λ k. set cells.slots k (Some d)) here in
        let kept = map_kept is i within d at slots in (
          written is i within d at slots (record { after = old.after; before = place; after_inside = old.after_inside; before_inside = inside; own = old.own }),
          λ j. record { before = map_written is i within d at slots (before_of base) j; after = kept (after_of base) refl c held refl j; list = kept (list_of base) refl c held refl j },
        )

    -- its list is written
    pub list_written : {new : Cells Cell} → new.at ≡ cells.at → (l : ℕ) → new.slots ≡ set cells.slots (index_at the_row cells.at q) (Some (record c { list = l })) →
        IsBlock base new deed alloc count × (seen base new.slots ≡ with_list i l (seen base cells.slots))
    list_written at l put =
        let d = record c { list = l } in let old = is_cell in
        let slots = put ∙ ap (λ k. set cells.slots k (Some d)) here in
        let kept = map_kept is i within d at slots in (
          written is i within d at slots (record { after = old.after; before = old.before; after_inside = old.after_inside; before_inside = old.before_inside; own = old.own }),
          λ j. record { list = map_written is i within d at slots (list_of base) j; after = kept (after_of base) refl c held refl j; before = kept (before_of base) refl c held refl j },
        )

  -- a cell is written whole
  pub cell_written : {new : Cells Cell} (q : Ptr) (d : Cell) → index_at the_row base q < count → new.at ≡ cells.at → IsCell base count (index_at the_row base q) d →
      new.slots ≡ set cells.slots (index_at the_row cells.at q) (Some d) → IsBlock base new deed alloc count × (seen base new.slots ≡ record {
        after = set (map (after_of base) cells.slots) (index_at the_row base q) (index_at the_row base d.after);
        before = set (map (before_of base) cells.slots) (index_at the_row base q) (index_at the_row base d.before);
        list = set (map (list_of base) cells.slots) (index_at the_row base q) d.list;
      })
  cell_written q d inside at good put =
      let i = index_at the_row base q in
      let slots = put ∙ ap (λ k. set cells.slots k (Some d)) (ap (λ a. index_at the_row a q) is.begins) in
      let within : i < length cells.slots = omega (arith, inside, is.counted) in (
        written is i within d at slots good,
        λ j. record { after = map_written is i within d at slots (after_of base) j; before = map_written is i within d at slots (before_of base) j; list = map_written is i within d at slots (list_of base) j },
      )

  -- the cell at q, from which the pointers are read
  module _ (q : Ptr) (n : ℕ) (c : Cell) (place : IsPlace the_row cells.at q) (index : index_at the_row cells.at q ≡ n) (got : get_or cells.slots (index_at the_row cells.at q) None ≡ Some c) where
    pub from_base : IsPlace the_row base q
    from_base = subst (λ a. IsPlace the_row a q) is.begins place

    pub own : index_at the_row base q ≡ n
    own = ap (λ a. index_at the_row a q) (sym is.begins) ∙ index

    there : get_or cells.slots n None ≡ Some c
    there = ap (λ k. get_or cells.slots k None) (sym index) ∙ got

    pub cell : IsCell base count n c
    cell = is.each n c there

    pub inside : index_at the_row base q < count
    inside = subst (λ k. k < count) (sym own) (let l : n < length cells.slots = filled_within cells.slots n c there in omega (arith, l, is.counted))

    pub after_read : index_at the_row base c.after ≡ get_or (map (after_of base) cells.slots) n 0
    after_read = sym (get_or_map (after_of base) cells.slots n None ∙ ap (after_of base) there)

    pub before_read : index_at the_row base c.before ≡ get_or (map (before_of base) cells.slots) n 0
    before_read = sym (get_or_map (before_of base) cells.slots n None ∙ ap (before_of base) there)

    pub left_place : (l : Ptr) → l ≡ c.before → IsPlace the_row base l × (index_at the_row base l < count)
    left_place l e = subst (λ p. IsPlace the_row base p × (index_at the_row base p < count)) (sym e) (cell.before, cell.before_inside)

    pub right_place : (r : Ptr) → r ≡ c.after → IsPlace the_row base r × (index_at the_row base r < count)
    right_place r e = subst (λ p. IsPlace the_row base p × (index_at the_row base p < count)) (sym e) (cell.after, cell.after_inside)

-- ---- the indices that were written

pub taken_out : (r : Rings) (i n left gone right back p q : ℕ) → i ≡ n → left ≡ p → gone ≡ q → right ≡ q → back ≡ p →
    with_list i 0 (record r { after = set r.after left gone; before = set r.before right back }) ≡ with_list n 0 (joined p q r)
taken_out r i n left gone right back p q own l g s b = rw (own, l, g, s, b) refl

pub was_put_in : (r : Rings) (list n at left first own after before right last p : ℕ) → left ≡ p → first ≡ n → own ≡ n → after ≡ at → before ≡ p → right ≡ at → last ≡ n →
    ◌≡◌ {A = Rings} (record {
      after = set (set r.after left first) own after;
      before = set (set r.before own before) right last;
      list = set r.list own list;
    }) (with_list n list (joined n at (joined p n r)))
was_put_in r list n at left first own after before right last p l f o a b s e = rw (l, f, o, a, b, s, e) refl
