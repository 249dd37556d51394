use Rattle.std.proofs.Common.{◌+◌, sym, ◌∙◌, ap, subst, arith, length}
use Rattle.std.proofs.lemmas.Result.{err_from_is_err_and}
use Rattle.script_table.specs.Patterns.{rows_of}
use Rattle.script_table.specs.Structure.{IsRising}
use Rattle.script_table.specs.Read.{said_in}
use Rattle.script_reader.specs.Begun.{begun}
use Rattle.script_reader.specs.Declarations.{naming_lines}
use Rattle.script_reader.proofs.Phases.{said_follow, said_rising}
use Rattle.script_reader.proofs.Unnamed.{naming_rising}
use Rattle.script_reader.proofs.Whole.{ends_in_one}
use Rattle.script_reader.proofs.read.read_in.Goals as goal

pub returns-in_err-reading : goal.returns-in_err-reading
returns-in_err-reading c =
    let p = err_from_is_err_and c.from_residual.result c.from_residual.ensures.1 in
    rw (p.1, p.2) (ends_in_one (rows_of c.args.table.now) (begun c.args.version c.args.lines) c.in_err-reading.field-0.0 c.in_err-reading.ensures)

pub script_of_named-requires-clause-rising : goal.script_of_named-requires-clause-rising
script_of_named-requires-clause-rising c =
    let rows = rows_of c.args.table.now in
    let last = c.args.lines.number + length c.args.lines.lines in
    rw (c.in_ok-reading.ensures.2, c.in_ok-reading.ensures.1) (said_rising rows last c.args.lines.number c.args.lines.lines (omega arith))

pub script_of_named-requires-clause-rising_names : goal.script_of_named-requires-clause-rising_names
script_of_named-requires-clause-rising_names c =
    let rows = rows_of c.args.table.now in
    let last = c.args.lines.number + length c.args.lines.lines in
    let lines = c.in_ok-naming.ensures.1 ∙ ap naming_lines (c.as_slice.ensures.value ∙ c.in_ok-reading.ensures.1) in
    (last, subst (λ ss. IsRising last ss) (sym lines) (naming_rising last c.args.lines.number (said_in rows (begun c.args.version c.args.lines)) (said_follow rows last c.args.lines.number c.args.lines.lines (omega arith))))
