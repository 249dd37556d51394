use Rattle.std.proofs.Common.{◌≡◌}
use Rattle.std.specs.Prelude.{map}
use Rattle.parts_texts.specs.Slots.{HaveRoomsOf, no_texts, text_in}
use Rattle.parts_texts.proofs.slots.Slots.open.Given as goal

abbrev pub invariant-loop : goal.invariant-loop
invariant-loop l = record {
  rooms : HaveRoomsOf l.room l.items.items;
  empty : map text_in l.items.items ≡ no_texts l.counter;
}
