use Rattle.std.proofs.Common.{◌≡◌, ◌<◌, ℕ, arith, length, subst}
use Rattle.rules_machine.specs.Priorities.{assigned_of}
use Rattle.rules_machine.specs.Threads.{thread_in}
use Rattle.parts_owners.specs.Chains.{assigned_to, with_claim}
use Rattle.kernel_table.proofs.Opening.{one_more}
use Rattle.kernel_table.proofs.open.assign_all.Goals as goal

pub loop-number-preserved : goal.loop-number-preserved
loop-number-preserved c =
    let changed = subst (λ (t : ℕ). c.reassign.new.chain ≡ with_claim t (assigned_to (assigned_of (thread_in c.args.threads.now t))) c.loop-number.chain) c.tid_of.ensures c.reassign.ensures.links.chain in
    let end = c.count-number-end.ensures.value in
    let within = c.loop-number-test.true in
    let lt : c.loop-number.number < length c.args.threads.now = omega (arith, end, within) in
    one_more c.args.threads.now c.loop-number.number _ c.loop-number.chain c.reassign.new.chain c.loop-number.waits c.reassign.new.waits lt c.requires.none
    changed c.reassign.ensures.links.waits c.reassign.ensures.links.placed c.loop-number.invariant
