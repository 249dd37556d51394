use Rattle.std.proofs.Common.{map, ◌∷◌}
use Rattle.script_table.specs.Patterns.{row_of}
use Rattle.script_table.proofs.ThreeParts.{in_first, in_second, in_third}
use Rattle.script_table.proofs.line_faults.fitting_pattern.Goals as goal

pub returns-in-Some-clause-row : goal.returns-in-Some-clause-row
returns-in-Some-clause-row c =
    let t = c.args.table.now in
    in_first (map row_of t.declarations.now) (map row_of t.steps.now) (map row_of t.calls.now) (c.args.first.now ∷ c.args.words.now.words)
    (row_of c.in-Some.found.pattern.now) c.in-Some.ensures.row

pub returns-in-Some-fitting_in-clause-row : goal.returns-in-Some-fitting_in-clause-row
returns-in-Some-fitting_in-clause-row c =
    let t = c.args.table.now in
    in_second (map row_of t.declarations.now) (map row_of t.steps.now) (map row_of t.calls.now) (c.args.first.now ∷ c.args.words.now.words)
    (row_of c.in-Some-fitting_in.found.pattern.now) c.in_default.ensures.row c.in-Some-fitting_in.ensures.row

pub returns-clause-row : goal.returns-clause-row
returns-clause-row c =
    let t = c.args.table.now in
    in_third (map row_of t.declarations.now) (map row_of t.steps.now) (map row_of t.calls.now) (c.args.first.now ∷ c.args.words.now.words)
    _ c.in_default.ensures.row c.in_default-fitting_in.ensures.row c.fitting_in-3.ensures.row
