use Rattle.std.proofs.Common.{◌≡◌, ◌<◌, ◌≤◌, ℕ, arith, length, subst}
use Rattle.rules_machine.specs.Threads.{thread_in}
use Rattle.kernel_table.specs.Tied.{timed}
use Rattle.kernel_table.proofs.Armed.{all_armed, one_armed}
use Rattle.kernel_table.proofs.times.time_all.Goals as goal

pub retime-requires-clause-numbers : goal.retime-requires-clause-numbers
retime-requires-clause-numbers c = c.loop-number.invariant.numbers

pub loop-number-preserved : goal.loop-number-preserved
loop-number-preserved c =
    let is = subst (λ (t : ℕ). c.retime.new.wheel.dues ≡ timed t (thread_in c.args.threads.now t) c.loop-number.wheel.dues) c.tid_of.ensures c.retime.ensures in
    let end = c.count-number-end.ensures.value in
    let within = c.loop-number-test.true in
    let lt : c.loop-number.number < length c.args.threads.now = omega (arith, end, within) in
    one_armed c.args.threads.now c.loop-number.wheel.dues c.retime.new.wheel.dues c.loop-number.number c.requires.few lt is c.loop-number.invariant

pub returns : goal.returns
returns c =
    let end = c.count-number-end.ensures.value in
    let past = c.loop-number-test.false in
    let le : length c.args.threads.now ≤ c.loop-number.number = omega (arith, end, past) in
    all_armed c.args.threads.now c.loop-number.wheel.dues c.loop-number.number le c.loop-number.invariant
