use Rattle.std.proofs.Common.{None, Some, arith, ◌≡◌}
use Rattle.parts_owners.specs.Chains.{next_in}
use Rattle.parts_owners.proofs.Turns.{ends_last, turns_on}
use Rattle.parts_owners.proofs.walk.walk_on.Goals as goal

pub returns-in_default-clause-right : goal.returns-in_default-clause-right
returns-in_default-clause-right c =
    let none : next_in c.args.claims.now c.args.mutexes.now c.loop.at ≡ None = cc in
    rw c.give.ensures.exec (ends_last _ _ _ _ _ _ _ _ _ _ c.loop.invariant.walking c.loop.invariant.asks none)

pub loop-preserved : goal.loop-preserved
loop-preserved c =
    let next : next_in c.args.claims.now c.args.mutexes.now c.loop.at ≡ Some c.in-Some.owner = cc in
    record {
      walking = rw (c.give.ensures.exec, c.give.ensures.waits)
          (turns_on _ _ _ _ _ _ _ _ _ _ _ c.loop.invariant.walking c.requires.walks.owners c.loop.invariant.asks next (record { positive = omega (arith, c.get.ensures); small = omega (arith, c.get.ensures) }));
      asks = c.asked-wanted.ensures;
    }
