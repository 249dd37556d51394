use Rattle.std.proofs.Common.{None, Some, arith, get_or, ◌≡◌}
use Rattle.parts_owners.specs.Chains.{prio_in}
use Rattle.std.proofs.lemmas.Grind.{get_or_default_zero}
use Rattle.parts_owners.proofs.FirstServed.{lent_first}
use Rattle.parts_owners.proofs.equations.raised_by_waiters.Goals as goal

pub bounds-exec-get : goal.bounds-exec-get
bounds-exec-get c =
    let k : c.in-Some.mutex ≡ c.args.k = omega (arith, c.in-Some.ensures, c.if-k-ge256.false) in
    let lent = lent_first c.args.exec.now c.args.claims.now c.args.w.now c.args.k c.in-Some.mutex (Some c.in-Some-best.first) c.requires.counted c.requires.stand c.requires.waiters k c.in-Some-best.ensures in
    omega (arith, lent.1, c.get.ensures.value, c.requires.each)

pub returns-in-Some-best : goal.returns-in-Some-best
returns-in-Some-best c =
    let k : c.in-Some.mutex ≡ c.args.k = omega (arith, c.in-Some.ensures, c.if-k-ge256.false) in
    let lent = lent_first c.args.exec.now c.args.claims.now c.args.w.now c.args.k c.in-Some.mutex (Some c.in-Some-best.first) c.requires.counted c.requires.stand c.requires.waiters k c.in-Some-best.ensures in
    let read : get_or c.args.exec.now c.in-Some-best.first c.index-exec-get.result ≡ prio_in c.args.exec.now c.in-Some-best.first =
    get_or_default_zero c.args.exec.now c.in-Some-best.first c.index-exec-get.result (omega (arith, lent.1, c.requires.each)) in
    grind (arith, lent.0, read, c.larger.ensures, c.get-in-Some-best.ensures.value, c.index-exec-get.is, c.get.ensures.value)

pub returns-in-None : goal.returns-in-None
returns-in-None c =
    let k : c.in-Some.mutex ≡ c.args.k = omega (arith, c.in-Some.ensures, c.if-k-ge256.false) in
    let lent = lent_first c.args.exec.now c.args.claims.now c.args.w.now c.args.k c.in-Some.mutex None c.requires.counted c.requires.stand c.requires.waiters k c.in-None.ensures in
    grind (arith, lent)
