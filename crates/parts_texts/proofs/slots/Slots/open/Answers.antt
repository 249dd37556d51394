use Rattle.std.proofs.Common.{ap, arith, subst, sym, suc, ◌+◌, ◌≡◌, ◌∙◌}
use Rattle.std.specs.Prelude.{List, map}
use Rattle.parts_texts.specs.Slots.{HaveRoomsOf, no_texts, text_in}
use Rattle.parts_texts.specs.Texts.{Next}
use Rattle.parts_texts.proofs.Held.{empty_more, rooms_more}
use Rattle.parts_texts.proofs.slots.Slots.open.Goals as goal

pub loop-preserved : goal.loop-preserved
loop-preserved c =
    let more = c.in_ok-push.ensures.items in
    let one : suc c.loop.counter ≡ c.loop.counter + 1 = omega arith in
    record {
      rooms = subst (HaveRoomsOf c.args.room) (sym more) (rooms_more c.args.room c.loop.items.items c.in_ok-open.field-0 c.loop.invariant.rooms (ap (λ (n : Next). n.room) c.in_ok-open.ensures));
      empty =
          ap (λ (items : List Next). map text_in items) more
          ∙ empty_more c.loop.items.items c.loop.counter c.in_ok-open.field-0 c.loop.invariant.empty (ap (λ (n : Next). n.text) c.in_ok-open.ensures)
          ∙ ap no_texts one;
    }
