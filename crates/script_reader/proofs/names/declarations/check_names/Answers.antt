use Rattle.std.proofs.Common.{ap, map}
use Rattle.script_reader.proofs.Phases.{at_drop, two_step, rises_on, no_fault, a_fault}
use Rattle.script_reader.proofs.names.declarations.check_names.Goals as goal

pub returns-in-Some : goal.returns-in-Some
returns-in-Some c =
    let here = ap (map (λ s. s.now)) (at_drop c.args.lines.now _ _ c.loop-s-test.true c.s-item.is) in
    a_fault _ _ _ _ _ _ _ _ c.line.ensures c.in-Some.is c.line_fault.ensures (two_step c.loop-s.invariant.rising.0 _ _ _ _ _ here c.loop-s.invariant.rising.1 c.loop-s.invariant.faults)

pub loop-s-preserved : goal.loop-s-preserved
loop-s-preserved c =
    let here = ap (map (λ s. s.now)) (at_drop c.args.lines.now _ _ c.loop-s-test.true c.s-item.is) in
    record {
      faults = no_fault _ _ _ _ _ _ c.in_default.is c.line_fault.ensures (two_step c.loop-s.invariant.rising.0 _ _ _ _ _ here c.loop-s.invariant.rising.1 c.loop-s.invariant.faults);
      rising = (c.loop-s.invariant.rising.0, rises_on c.loop-s.invariant.rising.0 _ _ _ here c.loop-s.invariant.rising.1);
    }
