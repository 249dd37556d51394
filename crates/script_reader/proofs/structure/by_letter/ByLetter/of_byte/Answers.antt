use Rattle.std.proofs.Common.{◌≡◌, ◌+◌, ◌<◌, ◌-◌, length, sym, subst, get_or, arith}
use Rattle.script_table.specs.Patterns.{rows_of}
use Rattle.script_reader.specs.ByLetter.{Serves}
use Rattle.script_reader.proofs.Narrowed.{serves_at}
use Rattle.script_reader.proofs.structure.by_letter.ByLetter.of_byte.Goals as goal

pub returns-then-place-len : goal.returns-then-place-len
returns-then-place-len c =
    let tables = c.self.inside.narrower.items in
    let k = c.args.byte - 97 in
    let lt : k < length tables = grind (arith, c.if-place-len.true, c.len.ensures) in
    let is : 97 + k ≡ c.args.byte = omega (arith, c.if-byte-ge97.true) in
    let there = serves_at (rows_of c.self.inside.table) 97 tables k c.index.result.now lt c.self.invariant in
    let here : Serves (rows_of c.self.inside.table) c.args.byte (get_or tables k c.index.result.now) = subst (λ b. Serves (rows_of c.self.inside.table) b (get_or tables k c.index.result.now)) is there in
    let found : Serves (rows_of c.self.inside.table) c.args.byte c.index.result.now = subst (λ t. Serves (rows_of c.self.inside.table) c.args.byte t) (sym c.index.ensures) here in
    subst (λ rows. Serves rows c.args.byte c.index.result.now) c.self.view_is found
