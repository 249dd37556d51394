use Rattle.std.proofs.Common.{◌≡◌, arith, below_more, length, subst, ℕ}
use Rattle.rules_machine.specs.Threads.{thread_at}
use Rattle.kernel_texts.specs.Modest.{IsModestThread}
use Rattle.kernel_lines.proofs.known.know_threads.Goals as goal

pub loop-number-init : goal.loop-number-init
loop-number-init c = λ t low. absurd (omega (arith, low))

pub loop-number-preserved : goal.loop-number-preserved
loop-number-preserved c =
    let holds = λ (t : ℕ). IsModestThread 112 (thread_at c.args.parts.now.machine t) in
    below_more holds c.loop-number.number c.loop-number.invariant (subst holds c.tid.ensures c.know_thread.ensures)

pub returns : goal.returns
returns c =
    let all : c.loop-number.number ≡ length c.args.parts.now.machine.threads = omega (arith, c.count-number-end.ensures.threads) in
    rw all at c.loop-number.invariant
