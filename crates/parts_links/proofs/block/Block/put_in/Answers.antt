use Rattle.std.proofs.Common.{◌≡◌, ◌<◌, get_or, set, sym, ap, subst, ◌∙◌, arith}
use Rattle.parts_links.specs.Places.{IsPlace, index_at}
use Rattle.parts_links.specs.Rings.{Rings, joined, with_list}
use Rattle.parts_links.specs.Block.{IsCell}
use Rattle.parts_links.specs.declared.block.Cell.{Cell}
use Rattle.parts_links.specs.contracts.block.Cell.{the_row}
use Rattle.parts_links.proofs.Blocks.{inside as cell_inside}
use Rattle.parts_links.proofs.Writes.{pointed, writable, after_written, before_written, cell_written, from_base, own, cell as cell_at, inside, before_read, left_place, was_put_in}
use Rattle.parts_links.proofs.block.Block.put_in.Goals as goal

pub get-held-requires : goal.get-held-requires
get-held-requires c =
    let is = c.self.invariant in let held = c.get.result.now in let base = c.self.inside.base.ptr in
    let q = c.place-place.result.ptr in let r = c.place-right.result.ptr in let l = c.at-left.result.ptr in let n = c.args.cell in let at = c.args.at in
    let place = c.place-right.ensures.place in let index = c.place-right.ensures.index in let got = c.get.ensures in
    let left = left_place is r at held place index got l c.at-left.ensures in
    pointed is l left.0 left.1

pub put-requires : goal.put-requires
put-requires c =
    let is = c.self.invariant in let held = c.get.result.now in let base = c.self.inside.base.ptr in
    let q = c.place-place.result.ptr in let r = c.place-right.result.ptr in let l = c.at-left.result.ptr in let n = c.args.cell in let at = c.args.at in
    let place = c.place-right.ensures.place in let index = c.place-right.ensures.index in let got = c.get.ensures in
    let left = left_place is r at held place index got l c.at-left.ensures in
    writable is l left.0 left.1

pub get-held-requires-2 : goal.get-held-requires-2
get-held-requires-2 c =
    let is = c.self.invariant in let held = c.get.result.now in let base = c.self.inside.base.ptr in
    let q = c.place-place.result.ptr in let r = c.place-right.result.ptr in let l = c.at-left.result.ptr in let n = c.args.cell in let at = c.args.at in
    let place = c.place-right.ensures.place in let index = c.place-right.ensures.index in let got = c.get.ensures in
    let left = left_place is r at held place index got l c.at-left.ensures in
    let cell = cell_at is r at held place index got in
    let here : IsPlace the_row base q = subst (λ a. IsPlace the_row a q) is.begins c.place-place.ensures.place in
    let numbered : index_at the_row base q ≡ n = ap (λ a. index_at the_row a q) (sym is.begins) ∙ c.place-place.ensures.index in
    let few : index_at the_row base q < c.self.inside.count = subst (λ k. k < c.self.inside.count) (sym numbered) (omega (arith, cell_inside is c.self.view_is n c.requires.1, is.counted)) in
    let first = subst (λ p. IsPlace the_row base p × (index_at the_row base p < c.self.inside.count)) (sym c.pointer.ensures) (here, few) in
    let one = after_written is l c.get-held.result.now c.get-held.ensures c.put.ensures.0 c.pointer.result first.0 first.1 c.put.ensures.1 in
    let second = subst (λ p. IsPlace the_row base p × (index_at the_row base p < c.self.inside.count)) (sym c.pointer-2.ensures) (from_base is r at held place index got, inside is r at held place index got) in
    let new : Cell = record { before = held.before; after = c.pointer-2.result; number = n; list = c.args.list } in
    let good : IsCell base c.self.inside.count (index_at the_row base q) new = record { after = second.0; before = cell.before; after_inside = second.1; before_inside = cell.before_inside; own = sym numbered } in
    let two = cell_written one.0 q new few c.put-2.ensures.0 good c.put-2.ensures.1 in
    pointed two.0 r (from_base is r at held place index got) (inside is r at held place index got)

pub invariant_of-self : goal.invariant_of-self
invariant_of-self c =
    let is = c.self.invariant in let held = c.get.result.now in let base = c.self.inside.base.ptr in
    let q = c.place-place.result.ptr in let r = c.place-right.result.ptr in let l = c.at-left.result.ptr in let n = c.args.cell in let at = c.args.at in
    let place = c.place-right.ensures.place in let index = c.place-right.ensures.index in let got = c.get.ensures in
    let left = left_place is r at held place index got l c.at-left.ensures in
    let cell = cell_at is r at held place index got in
    let here : IsPlace the_row base q = subst (λ a. IsPlace the_row a q) is.begins c.place-place.ensures.place in
    let numbered : index_at the_row base q ≡ n = ap (λ a. index_at the_row a q) (sym is.begins) ∙ c.place-place.ensures.index in
    let few : index_at the_row base q < c.self.inside.count = subst (λ k. k < c.self.inside.count) (sym numbered) (omega (arith, cell_inside is c.self.view_is n c.requires.1, is.counted)) in
    let first = subst (λ p. IsPlace the_row base p × (index_at the_row base p < c.self.inside.count)) (sym c.pointer.ensures) (here, few) in
    let one = after_written is l c.get-held.result.now c.get-held.ensures c.put.ensures.0 c.pointer.result first.0 first.1 c.put.ensures.1 in
    let second = subst (λ p. IsPlace the_row base p × (index_at the_row base p < c.self.inside.count)) (sym c.pointer-2.ensures) (from_base is r at held place index got, inside is r at held place index got) in
    let new : Cell = record { before = held.before; after = c.pointer-2.result; number = n; list = c.args.list } in
    let good : IsCell base c.self.inside.count (index_at the_row base q) new = record { after = second.0; before = cell.before; after_inside = second.1; before_inside = cell.before_inside; own = sym numbered } in
    let two = cell_written one.0 q new few c.put-2.ensures.0 good c.put-2.ensures.1 in
    let third = subst (λ p. IsPlace the_row base p × (index_at the_row base p < c.self.inside.count)) (sym c.pointer-3.ensures) (here, few) in
    let three = before_written two.0 r c.get-held-2.result.now c.get-held-2.ensures c.put-3.ensures.0 c.pointer-3.result third.0 third.1 c.put-3.ensures.1 in
    three.0

pub returns : goal.returns
returns c =
    let is = c.self.invariant in let held = c.get.result.now in let base = c.self.inside.base.ptr in
    let q = c.place-place.result.ptr in let r = c.place-right.result.ptr in let l = c.at-left.result.ptr in let n = c.args.cell in let at = c.args.at in
    let place = c.place-right.ensures.place in let index = c.place-right.ensures.index in let got = c.get.ensures in
    let left = left_place is r at held place index got l c.at-left.ensures in
    let cell = cell_at is r at held place index got in
    let here : IsPlace the_row base q = subst (λ a. IsPlace the_row a q) is.begins c.place-place.ensures.place in
    let numbered : index_at the_row base q ≡ n = ap (λ a. index_at the_row a q) (sym is.begins) ∙ c.place-place.ensures.index in
    let few : index_at the_row base q < c.self.inside.count = subst (λ k. k < c.self.inside.count) (sym numbered) (omega (arith, cell_inside is c.self.view_is n c.requires.1, is.counted)) in
    let first = subst (λ p. IsPlace the_row base p × (index_at the_row base p < c.self.inside.count)) (sym c.pointer.ensures) (here, few) in
    let one = after_written is l c.get-held.result.now c.get-held.ensures c.put.ensures.0 c.pointer.result first.0 first.1 c.put.ensures.1 in
    let second = subst (λ p. IsPlace the_row base p × (index_at the_row base p < c.self.inside.count)) (sym c.pointer-2.ensures) (from_base is r at held place index got, inside is r at held place index got) in
    let new : Cell = record { before = held.before; after = c.pointer-2.result; number = n; list = c.args.list } in
    let good : IsCell base c.self.inside.count (index_at the_row base q) new = record { after = second.0; before = cell.before; after_inside = second.1; before_inside = cell.before_inside; own = sym numbered } in
    let two = cell_written one.0 q new few c.put-2.ensures.0 good c.put-2.ensures.1 in
    let third = subst (λ p. IsPlace the_row base p × (index_at the_row base p < c.self.inside.count)) (sym c.pointer-3.ensures) (here, few) in
    let three = before_written two.0 r c.get-held-2.result.now c.get-held-2.ensures c.put-3.ensures.0 c.pointer-3.result third.0 third.1 c.put-3.ensures.1 in
    let ix = index_at the_row base in let before = before_read is r at held place index got in let right = own is r at held place index got in
    three.1 ∙ ap (λ (s : Rings). record s { before = set s.before (ix r) (ix c.pointer-3.result) })
    (two.1 ∙ ap (λ (s : Rings). record s { after = set s.after (ix q) (ix c.pointer-2.result); before = set s.before (ix q) (ix held.before); list = set s.list (ix q) c.args.list }) one.1)
    ∙ was_put_in _ c.args.list n at (ix l) (ix c.pointer.result) (ix q) (ix c.pointer-2.result) (ix held.before) (ix r) (ix c.pointer-3.result) _
    (ap ix c.at-left.ensures ∙ before) (ap ix c.pointer.ensures ∙ numbered) numbered (ap ix c.pointer-2.ensures ∙ right) before right (ap ix c.pointer-3.ensures ∙ numbered)
    ∙ ap (λ (s : Rings). with_list n c.args.list (joined n at (joined (get_or s.before at 0) n s))) c.self.view_is
