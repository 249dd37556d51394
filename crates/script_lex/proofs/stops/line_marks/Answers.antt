use Rattle.std.proofs.Common.{ap, ◌∙◌, arith, not, min}
use Rattle.std.specs.Prelude.{nat_lt}
use Rattle.script_lex.specs.Stops.{stops}
use Rattle.script_lex.specs.declared.stops.Stop.TheVariants as stop
use Rattle.script_lex.proofs.Ahead.{bad_among}
use Rattle.script_lex.proofs.Runs.{taken, among_16, before_16}
use Rattle.script_lex.proofs.stops.line_marks.Goals as goal

pub returns-then-len-lt16-clause-marks : goal.returns-then-len-lt16-clause-marks
returns-then-len-lt16-clause-marks c =
    let text = c.args.text.now in
    let len = c.run_of_16-len.result in
    let line = c.run_of_16-len.ensures in
    let short = c.if-len-lt16.true in
    let end = taken (λ x. not (stops stop.LineEnd x)) text 16 in
    let comment = among_16 (λ x. not (stops stop.Comment x)) text len short in
    let bad = before_16 (λ x. not (stops stop.Bad x)) text len short in (
      omega (arith, line, end, short),
      c.min.ensures ∙ (ap (λ n. min n len) c.run_of_16.ensures ∙ comment),
      ap (λ n. nat_lt n len) c.run_of_16-then-len-lt16.ensures ∙ (bad ∙ bad_among text len (omega (arith, c.if-text-ge16.true, short))),
    )
