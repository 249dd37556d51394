use Rattle.std.proofs.Common.{get_or, set, ap, ◌∙◌}
use Rattle.parts_links.specs.Places.{index_at}
use Rattle.parts_links.specs.Rings.{Rings, joined, with_list}
use Rattle.parts_links.specs.contracts.block.Cell.{the_row}
use Rattle.parts_links.proofs.Writes.{pointed, writable, after_written, before_written, list_written, from_base, own, cell as cell_at, inside, after_read, before_read, left_place, right_place, taken_out}
use Rattle.parts_links.proofs.block.Block.take_out.Goals as goal

pub get-held-requires : goal.get-held-requires
get-held-requires c =
    let is = c.self.invariant in let held = c.get.result.now in
    let q = c.place-place.result.ptr in let l = c.at-left.result.ptr in let r = c.at-right.result.ptr in let n = c.args.cell in
    let place = c.place-place.ensures.place in let index = c.place-place.ensures.index in let got = c.get.ensures in
    let left = left_place is q n held place index got l c.at-left.ensures in
    pointed is l left.0 left.1

pub put-requires : goal.put-requires
put-requires c =
    let is = c.self.invariant in let held = c.get.result.now in
    let q = c.place-place.result.ptr in let l = c.at-left.result.ptr in let r = c.at-right.result.ptr in let n = c.args.cell in
    let place = c.place-place.ensures.place in let index = c.place-place.ensures.index in let got = c.get.ensures in
    let left = left_place is q n held place index got l c.at-left.ensures in
    writable is l left.0 left.1

pub get-held-requires-2 : goal.get-held-requires-2
get-held-requires-2 c =
    let is = c.self.invariant in let held = c.get.result.now in
    let q = c.place-place.result.ptr in let l = c.at-left.result.ptr in let r = c.at-right.result.ptr in let n = c.args.cell in
    let place = c.place-place.ensures.place in let index = c.place-place.ensures.index in let got = c.get.ensures in
    let left = left_place is q n held place index got l c.at-left.ensures in
    let right = right_place is q n held place index got r c.at-right.ensures in
    let cell = cell_at is q n held place index got in
    let one = after_written is l c.get-held.result.now c.get-held.ensures c.put.ensures.0 held.after cell.after cell.after_inside c.put.ensures.1 in
    pointed one.0 r right.0 right.1

pub put-requires-2 : goal.put-requires-2
put-requires-2 c =
    let is = c.self.invariant in let held = c.get.result.now in
    let q = c.place-place.result.ptr in let l = c.at-left.result.ptr in let r = c.at-right.result.ptr in let n = c.args.cell in
    let place = c.place-place.ensures.place in let index = c.place-place.ensures.index in let got = c.get.ensures in
    let left = left_place is q n held place index got l c.at-left.ensures in
    let right = right_place is q n held place index got r c.at-right.ensures in
    let cell = cell_at is q n held place index got in
    let one = after_written is l c.get-held.result.now c.get-held.ensures c.put.ensures.0 held.after cell.after cell.after_inside c.put.ensures.1 in
    writable one.0 r right.0 right.1

pub get-held-requires-3 : goal.get-held-requires-3
get-held-requires-3 c =
    let is = c.self.invariant in let held = c.get.result.now in
    let q = c.place-place.result.ptr in let l = c.at-left.result.ptr in let r = c.at-right.result.ptr in let n = c.args.cell in
    let place = c.place-place.ensures.place in let index = c.place-place.ensures.index in let got = c.get.ensures in
    let left = left_place is q n held place index got l c.at-left.ensures in
    let cell = cell_at is q n held place index got in
    let one = after_written is l c.get-held.result.now c.get-held.ensures c.put.ensures.0 held.after cell.after cell.after_inside c.put.ensures.1 in
    let two = before_written one.0 r c.get-held-2.result.now c.get-held-2.ensures c.put-2.ensures.0 held.before cell.before cell.before_inside c.put-2.ensures.1 in
    pointed two.0 q (from_base is q n held place index got) (inside is q n held place index got)

pub invariant_of-self : goal.invariant_of-self
invariant_of-self c =
    let is = c.self.invariant in let held = c.get.result.now in
    let q = c.place-place.result.ptr in let l = c.at-left.result.ptr in let r = c.at-right.result.ptr in let n = c.args.cell in
    let place = c.place-place.ensures.place in let index = c.place-place.ensures.index in let got = c.get.ensures in
    let left = left_place is q n held place index got l c.at-left.ensures in
    let cell = cell_at is q n held place index got in
    let one = after_written is l c.get-held.result.now c.get-held.ensures c.put.ensures.0 held.after cell.after cell.after_inside c.put.ensures.1 in
    let two = before_written one.0 r c.get-held-2.result.now c.get-held-2.ensures c.put-2.ensures.0 held.before cell.before cell.before_inside c.put-2.ensures.1 in
    let three = list_written two.0 q c.get-held-3.result.now c.get-held-3.ensures c.put-3.ensures.0 0 c.put-3.ensures.1 in
    three.0

pub returns : goal.returns
returns c =
    let is = c.self.invariant in let held = c.get.result.now in
    let q = c.place-place.result.ptr in let l = c.at-left.result.ptr in let r = c.at-right.result.ptr in let n = c.args.cell in
    let place = c.place-place.ensures.place in let index = c.place-place.ensures.index in let got = c.get.ensures in
    let left = left_place is q n held place index got l c.at-left.ensures in
    let cell = cell_at is q n held place index got in
    let one = after_written is l c.get-held.result.now c.get-held.ensures c.put.ensures.0 held.after cell.after cell.after_inside c.put.ensures.1 in
    let two = before_written one.0 r c.get-held-2.result.now c.get-held-2.ensures c.put-2.ensures.0 held.before cell.before cell.before_inside c.put-2.ensures.1 in
    let three = list_written two.0 q c.get-held-3.result.now c.get-held-3.ensures c.put-3.ensures.0 0 c.put-3.ensures.1 in
    let ix = index_at the_row c.self.inside.base.ptr in
    let before = before_read is q n held place index got in let after = after_read is q n held place index got in
    three.1 ∙ ap (with_list (ix q) 0) (two.1 ∙ ap (λ (s : Rings). record s { before = set s.before (ix r) (ix held.before) }) one.1)
    ∙ taken_out _ (ix q) n (ix l) (ix held.after) (ix r) (ix held.before) _ _ (own is q n held place index got) (ap ix c.at-left.ensures ∙ before) after (ap ix c.at-right.ensures ∙ after) before
    ∙ ap (λ (s : Rings). with_list n 0 (joined (get_or s.before n 0) (get_or s.after n 0) s)) c.self.view_is
