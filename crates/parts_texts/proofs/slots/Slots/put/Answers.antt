use Rattle.std.proofs.Common.{ap}
use Rattle.parts_texts.specs.Texts.{Next}
use Rattle.parts_texts.proofs.Held.{text_set}
use Rattle.parts_texts.proofs.slots.Slots.put.Goals as goal

pub returns : goal.returns
returns c = text_set c.args.self.now c.self.inside.items.items c.self.inside.room c.args.number c.set.new.self c.args.text.now c.self.view_is (ap (λ (n : Next). n.text) c.set.ensures)
