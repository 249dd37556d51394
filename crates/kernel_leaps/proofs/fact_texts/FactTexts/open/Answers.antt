use Rattle.std.proofs.Common.{ap, refl, subst, sym}
use Rattle.parts_texts.specs.Texts.{Next}
use Rattle.kernel_leaps.specs.Detail.{HaveRoomsFor}
use Rattle.kernel_leaps.proofs.TellingRooms.{few_of_each, opened_rooms}
use Rattle.kernel_leaps.proofs.fact_texts.FactTexts.open.Goals as goal

pub rooms_of-rooms-requires : goal.rooms_of-rooms-requires
rooms_of-rooms-requires c = few_of_each c.args.script.now c.requires.runnable c.requires.few

pub returns : goal.returns
returns c =
    subst (HaveRoomsFor c.args.script.now) (sym c.in_ok-new.ensures.ok)
    (opened_rooms c.args.script.now c.rooms_of-rooms.result c.rooms_of-rooms.ensures.rooms _ _ refl c.in_ok-open.ensures (ap (λ (x : Next). x.room) c.in_ok-open-2.ensures))
