use Rattle.script_table.specs.Faults.{when}
use Rattle.script_table.specs.LineFaults.{place_faults}
use Rattle.script_table.specs.Ranges.{range_fault, is_too_many, server_faults}
use Rattle.std.specs.Prelude.{◌++◌}
use Rattle.script_table.specs.declared.faults.FaultKind.TheVariants.{TooMany}
use Rattle.script_table.proofs.KindOrder.{least_kind-append}
use Rattle.script_reader.proofs.ranges.statement_fault.Goals as goal

pub returns : goal.returns
returns c =
    let row = c.args.s.now.row in
    let words = c.args.s.now.words in
    let later = least_kind-append (server_faults row.form words) (when (is_too_many c.args.tally.now row.form) TooMany) in
    let joined = least_kind-append (place_faults range_fault row.places words) (server_faults row.form words ++ when (is_too_many c.args.tally.now row.form) TooMany) in
    let places = c.range_fault.ensures in
    let server = rw (c.form.ensures, c.words.ensures) at c.server_fault.ensures in
    let many = rw c.form-2.ensures at c.many_fault.ensures in
    cc
