use Rattle.std.proofs.Common.{◌∙◌, [], sym, ap, arith}
use Rattle.tool_audit.specs.Head.{in_ranges, phase_three}
use Rattle.tool_audit.specs.Server.{NamedServer}
use Rattle.tool_audit.proofs.PhaseThree as three
use Rattle.tool_audit.proofs.heads.watches.Goals as goal

pub returns-in_default : goal.returns-in_default
returns-in_default c =
    rw c.line.ensures (three.is_number _ _ c.s-item.result c.loop-s.each.items _
    (record { within = c.loop-s-test.true; stands = c.s-item.is; kept = c.loop-s.invariant.each; all_faults = c.loop-s.invariant.faults }) c.in_default.ensures)

pub returns-then-len-ge-MOST_SERVERS : goal.returns-then-len-ge-MOST_SERVERS
returns-then-len-ge-MOST_SERVERS c =
    rw c.line-then-len-ge-MOST_SERVERS.ensures (three.is_many _ _ c.s-item.result c.loop-s.each.items _
    (record { within = c.loop-s-test.true; stands = c.s-item.is; kept = c.loop-s.invariant.each; all_faults = c.loop-s.invariant.faults })
    c.in-Some.ensures.0 (omega (arith, c.len.ensures, c.loop-s.each.ok.0, c.if-len-ge-MOST_SERVERS.true)))

pub returns-then-not-are_in_ranges : goal.returns-then-not-are_in_ranges
returns-then-not-are_in_ranges c =
    let wrong = ap (λ (n : NamedServer). in_ranges n.limits) (sym c.in-Some.ensures.1) ∙ (sym c.are_in_ranges.ensures ∙ c.if-not-are_in_ranges.true) in
    rw c.line-then-not-are_in_ranges.ensures (three.is_server _ _ c.s-item.result c.loop-s.each.items _
    (record { within = c.loop-s-test.true; stands = c.s-item.is; kept = c.loop-s.invariant.each; all_faults = c.loop-s.invariant.faults })
    c.in-Some.ensures.0 (omega (arith, c.len.ensures, c.loop-s.each.ok.0, c.if-len-ge-MOST_SERVERS.false)) wrong)

pub loop-s-preserved : goal.loop-s-preserved
loop-s-preserved c =
    let right = ap (λ (n : NamedServer). in_ranges n.limits) (sym c.in-Some.ensures.1) ∙ (sym c.are_in_ranges.ensures ∙ c.if-not-are_in_ranges.false) in
    let at : three.Stands c.args.statements.now c.loop-s.s-index c.s-item.result c.loop-s.each.items (phase_three [] c.args.statements.now) = record { within = c.loop-s-test.true; stands = c.s-item.is; kept = c.loop-s.invariant.each; all_faults = c.loop-s.invariant.faults } in
    record {
      faults = three.past _ _ c.s-item.result c.loop-s.each.items _ at c.in-Some.ensures.0 (omega (arith, c.len.ensures, c.loop-s.each.ok.0, c.if-len-ge-MOST_SERVERS.false)) right;
      each = rw (c.in_ok-push.ensures.items, c.new.ensures, c.in-Some.ensures.1) (three.one_more _ _ c.s-item.result c.loop-s.each.items _ at);
    }
