use Rattle.script_reader.proofs.Phases.{at_drop, three_step, rises_on, no_fault, a_fault}
use Rattle.script_reader.proofs.Bounded.{still_below}
use Rattle.script_reader.proofs.ranges.check_ranges.Goals as goal

pub returns-in-Some : goal.returns-in-Some
returns-in-Some c =
    let here = at_drop _ _ _ c.loop-s-test.true c.s-item.is in
    let tally = rw c.form.ensures at c.add.ensures in
    a_fault _ _ _ _ _ _ _ _ c.line.ensures c.in-Some.is c.statement_fault.ensures (three_step _ _ _ _ _ _ _ here tally c.loop-s.invariant.rising c.loop-s.invariant.faults)

pub loop-s-preserved : goal.loop-s-preserved
loop-s-preserved c =
    let here = at_drop _ _ _ c.loop-s-test.true c.s-item.is in
    let tally = rw c.form.ensures at c.add.ensures in
    record {
      faults = no_fault _ _ _ _ _ _ c.in_default.is c.statement_fault.ensures (three_step _ _ _ _ _ _ _ here tally c.loop-s.invariant.rising c.loop-s.invariant.faults);
      rising = rises_on _ _ _ _ here c.loop-s.invariant.rising;
      counts = still_below _ _ _ _ tally c.loop-s.invariant.counts;
    }
