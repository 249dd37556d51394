use Rattle.std.proofs.Common.{None, Some, arith, sym, ◌+◌, ◌≡◌, ◌≤◌, ◌∙◌}
use Rattle.rules_machine.specs.Threads.{mutex_in}
use Rattle.parts_owners.specs.Chains.{next_in, prio_in, through_in}
use Rattle.parts_owners.proofs.Rising.{has_no_more, turned_rises}
use Rattle.parts_owners.proofs.Turns.{Walking, ends_last, no_more, turns_on}
use Rattle.parts_owners.proofs.rise.rise_in_full.Goals as goal

pub returns-in_default-clause-right : goal.returns-in_default-clause-right
returns-in_default-clause-right c =
    let none : next_in c.args.claims.now c.args.mutexes.now c.loop.at ≡ None = sym c.in_default.ensures.next in
    rw c.give.ensures.exec (ends_last _ _ _ _ _ _ _ _ _ _ c.loop.invariant.walking c.asked_through-wanted.ensures none)

pub returns-clause-right : goal.returns-clause-right
returns-clause-right c =
    let lt = no_more _ _ _ _ _ _ _ _ _ c.loop.invariant.walking c.requires.walks.end c.requires.walks.known in
    absurd (omega (arith, lt, c.loop-test.false))

pub loop-preserved : goal.loop-preserved
loop-preserved c =
    let walking = c.loop.invariant.walking in
    let next : next_in c.args.claims.now c.args.mutexes.now c.loop.at ≡ Some c.in-Some.next.owner = sym c.in-Some.ensures.next in
    let on : Walking c.args.claims.now c.args.mutexes.now c.args.start c.args.exec.now c.args.w.now (c.loop.counter + 1) c.in-Some.next.owner c.give.new.exec c.give.new.w =
    rw (c.give.ensures.exec, c.give.ensures.waits)
    (turns_on _ _ _ _ _ _ _ _ _ _ _ walking c.requires.walks.owners c.asked_through-wanted.ensures next (record { positive = omega (arith, c.get.ensures); small = omega (arith, c.get.ensures) })) in
    let e = prio_in c.loop.exec in
    let least : e c.loop.at ≤ c.asked_through-wanted.result =
    has_no_more (e c.loop.at) c.asked_through-wanted.result (through_in c.args.claims.now e c.loop.at c.loop.through (mutex_in c.args.mutexes.now c.loop.through)) (c.asked_through-wanted.ensures ∙ c.loop.invariant.rises) in
    record {
      walking = on;
      mutex = c.in-Some.ensures.owned;
      rises = rw c.give.ensures.exec
          (turned_rises c.args.claims.now c.args.mutexes.now c.loop.exec c.loop.at c.asked_through-wanted.result c.in-Some.next.mutex c.in-Some.next.owner c.requires.walks.end walking.known walking.each on.known c.in-Some.ensures.owned
          walking.right least c.in-Some.ensures.awaited next);
    }
