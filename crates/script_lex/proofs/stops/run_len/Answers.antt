use Rattle.std.proofs.Common.{sym, ap, ◌∙◌, arith, not}
use lib.Count.{count_trailing_zeros}
use Rattle.script_lex.specs.Stops.{stops}
use Rattle.script_lex.proofs.Runs.{taken, run_through, run_stops}
use Rattle.script_lex.proofs.stops.run_len.Goals as goal

pub returns-then-found-ne0-clause-run : goal.returns-then-found-ne0-clause-run
returns-then-found-ne0-clause-run c =
    let found = c.stops_of_16-found in
    let first = taken (λ x. not (stops c.args.stop x)) c.args.ahead.now c.args.len in
    let run = run_stops (stops c.args.stop) c.args.ahead.now c.loop-at.at 16 (omega arith) (omega arith) (omega (arith, found.ensures)) ∙ ap (count_trailing_zeros 64) (sym found.ensures) in
    omega (arith, run, first, c.loop-at.invariant.run)

pub loop-at-preserved : goal.loop-at-preserved
loop-at-preserved c =
    let run = run_through (stops c.args.stop) c.args.ahead.now c.loop-at.at 16 (omega arith) (omega (arith, c.stops_of_16-found.ensures)) in
    record {
      run = omega (arith, run, c.loop-at.invariant.run);
      within = omega arith;
    }

pub returns-then-len-at-clause-run : goal.returns-then-len-at-clause-run
returns-then-len-at-clause-run c =
    let first = taken (λ x. not (stops c.args.stop x)) c.args.ahead.now c.args.len in
    omega (arith, first, c.loop-at.invariant.run, c.if-len-at.true)

pub last_run-requires-clause-from : goal.last_run-requires-clause-from
last_run-requires-clause-from c =
    let first = taken (λ x. not (stops c.args.stop x)) c.args.ahead.now c.args.len in
    omega (arith, first, c.loop-at.invariant.run, c.if-len-at.false)

pub returns-clause-bound : goal.returns-clause-bound
returns-clause-bound c =
    let first = taken (λ x. not (stops c.args.stop x)) c.args.ahead.now c.args.len in
    omega (arith, first, c.last_run.ensures)
