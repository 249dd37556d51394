use Rattle.std.proofs.Common.{set, Some, refl, sym, ap, subst, ◌∙◌, arith}
use Rattle.parts_links.specs.Places.{IsPlace, index_at}
use Rattle.parts_links.specs.declared.block.Cell.{Cell}
use Rattle.parts_links.specs.contracts.block.Cell.{the_row}
use Rattle.parts_links.proofs.Blocks.{one_more}
use Rattle.parts_links.proofs.block.fill.Goals as goal

pub loop-number-preserved : goal.loop-number-preserved
loop-number-preserved c =
    let n = c.loop-number.number in let was = c.loop-number.invariant.1 in let p = c.pointer-pointer.result in
    let place = subst (λ q. IsPlace the_row c.args.base.ptr q) (sym c.pointer-pointer.ensures) (subst (λ a. IsPlace the_row a c.place-place.result.ptr) was.begins c.place-place.ensures.place) in
    let index = ap (index_at the_row c.args.base.ptr) c.pointer-pointer.ensures ∙ ap (λ a. index_at the_row a c.place-place.result.ptr) (sym was.begins) ∙ c.place-place.ensures.index in
    let d : Cell = record { before = p; after = p; number = n; list = 0 } in (
      omega arith,
      one_more c.args.base.ptr c.loop-number.cells c.put.new.self c.args.count n d was (omega arith) c.put.ensures.0
          (c.put.ensures.1 ∙ ap (λ k. set c.loop-number.cells.slots k (Some d)) c.place-place.ensures.index)
          (record { after = place; before = place; after_is = index; before_is = index; own = refl; list = refl }),
    )
