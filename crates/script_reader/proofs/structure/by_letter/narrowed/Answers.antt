use Rattle.std.proofs.Common.{map}
use Rattle.script_table.specs.Patterns.{row_of}
use Rattle.script_reader.proofs.Narrowed.{three}
use Rattle.script_reader.proofs.structure.by_letter.narrowed.Goals as goal

pub returns : goal.returns
returns c =
    let t = c.args.table.now in
    three c.args.byte (map row_of c.between.result.now) (map row_of c.between-2.result.now) (map row_of c.between-3.result.now)
    (map row_of t.declarations.now) (map row_of t.steps.now) (map row_of t.calls.now) c.between.ensures c.between-2.ensures c.between-3.ensures
