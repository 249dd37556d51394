use Rattle.std.proofs.Common.{arith, length, ◌-◌, ◌≡◌, ◌++◌}
use Rattle.std.specs.Prelude.{take}
use Rattle.std.proofs.lemmas.Grind.{common_steps}
use Rattle.parts_texts.proofs.next.NextText.write_part.Goals as goal

pub returns-clause-written : goal.returns-clause-written
returns-clause-written c =
    let left = c.self.inside.room - length c.self.inside.text.items in
    let text : c.extend_from_slice.new.self.items ≡ c.args.self.now.text ++ take left c.args.bytes.now = grind (arith, common_steps, c.extend_from_slice.ensures.items) in
    (left, grind (arith, text))
