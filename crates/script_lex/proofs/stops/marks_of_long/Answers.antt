use Rattle.std.proofs.Common.{ap, ◌∙◌, arith, not, length}
use Rattle.std.specs.Prelude.{nat_lt}
use Rattle.std.proofs.lemmas.List.Sums.{prefix_len-le-length}
use Rattle.script_lex.specs.Stops.{stops}
use Rattle.script_lex.specs.declared.stops.Stop.TheVariants as stop
use Rattle.script_lex.proofs.Ahead.{bad_among}
use Rattle.script_lex.proofs.Runs.{taken}
use Rattle.script_lex.proofs.stops.marks_of_long.Goals as goal

pub returns-clause-marks : goal.returns-clause-marks
returns-clause-marks c =
    let text = c.args.text.now in
    let len = c.run_len-len.result in
    let end = taken (λ x. not (stops stop.LineEnd x)) text (length text) in
    let most = prefix_len-le-length (λ x. not (stops stop.LineEnd x)) text in (
      omega (arith, c.run_len-len.ensures.run, end, most),
      c.run_len.ensures.run,
      ap (λ n. nat_lt n len) c.run_len-2.ensures.run ∙ bad_among text len c.run_len-len.ensures.bound,
    )
