use Rattle.std.proofs.Common.{arith, length, refl, ◌-◌, ◌≡◌, ◌≢◌}
use Rattle.rules_machine.specs.Threads.{mutex_in}
use Rattle.parts_owners.proofs.Leading.{first_known, first_owner, next_known, turn_end, turn_found, turn_none, turn_on}
use Rattle.std.proofs.lemmas.Bool.Decides.{nat_tests}
use Rattle.parts_owners.proofs.claims.leads_to.Goals as goal

pub loop-init : goal.loop-init
loop-init c =
    let claims = c.args.claims.now in
    let mutexes = c.args.mutexes.now in
    let is : c.owner-owner.result ≡ (mutex_in mutexes c.args.k).owner =
    first_owner claims mutexes c.args.k c.index-mutexes-get.result _ c.requires.mutex (rw c.get.ensures.value at c.index-mutexes-get.is) c.owner-owner.ensures in
    let all : length claims - 0 ≡ length claims = omega arith in
    (rw (all, is) refl, rw is (first_known claims mutexes c.requires.owners c.args.k))

pub returns-in_default : goal.returns-in_default
returns-in_default c = turn_none c.args.claims.now c.args.mutexes.now _ _ _ _ c.in_default.is c.loop.invariant.0

pub returns-then-eq : goal.returns-then-eq
returns-then-eq c =
    let same : c.in-Some.u ≡ c.args.t = grind (arith, nat_tests, c.if-eq.true, c.eq.ensures) in
    turn_found c.args.claims.now c.args.mutexes.now _ _ _ _ _ _ c.loop-test.true c.in-Some.is same c.loop.invariant.0

pub loop-preserved : goal.loop-preserved
loop-preserved c =
    let apart : c.in-Some.u ≢ c.args.t = grind (arith, nat_tests, c.if-eq.false, c.eq.ensures) in (
      rw c.next-owner.ensures
          (turn_on c.args.claims.now c.args.mutexes.now _ _ _ _ _ _ c.loop-test.true c.in-Some.is apart c.loop.invariant.0),
      rw c.next-owner.ensures (next_known c.args.claims.now c.args.mutexes.now c.requires.owners c.in-Some.u),
    )

pub returns : goal.returns
returns c = turn_end c.args.claims.now c.args.mutexes.now _ _ _ _ _ c.loop-test.false c.loop.invariant.0
