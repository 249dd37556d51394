use Rattle.std.proofs.Common.{refl, ◌≡◌}
use Rattle.parts_owners.proofs.Begun.{begins_taken, stands_cached}
use Rattle.parts_owners.specs.Chains.{asked_in, links_of, prio_in}
use Rattle.parts_owners.proofs.Done.{Begins, finished, may_walk, settled_after}
use Rattle.parts_owners.proofs.OneMutex.{nothing_changes, still_settled, taken_same}
use Rattle.parts_owners.proofs.changes.take.Goals as goal

pub walk_apart-requires : goal.walk_apart-requires
walk_apart-requires c =
    let old = links_of c.args.claims.now c.args.mutexes.now in
    let new = links_of c.args.claims.now c.become_owner.new.mutexes in
    let b : Begins old new c.args.exec.now c.args.t c.args.w.now =
    rw c.become_owner.ensures (begins_taken old _ c.args.k _ _ c.requires.known c.requires.mutex c.requires.settled c.requires.placed c.requires.free c.requires.waits_not) in
    may_walk old new _ _ _ b

pub returns : goal.returns
returns c =
    let old = links_of c.args.claims.now c.args.mutexes.now in
    let new = links_of c.args.claims.now c.become_owner.new.mutexes in
    let b : Begins old new c.args.exec.now c.args.t c.args.w.now =
    rw c.become_owner.ensures (begins_taken old _ c.args.k _ _ c.requires.known c.requires.mutex c.requires.settled c.requires.placed c.requires.free c.requires.waits_not) in
    let e = c.walk_apart.ensures in
    record {
      mutexes = c.become_owner.ensures;
      settled = settled_after old new _ _ _ _ b e.each e.right e.fits;
      changes = finished old new _ _ _ _ _ _ b e.right e.same e.stand e.moved;
      alone = e.alone (rw c.requires.waits_not refl);
    }

pub lends_nothing-requires-clause-stand : goal.lends_nothing-requires-clause-stand
lends_nothing-requires-clause-stand c = stands_cached (links_of c.args.claims.now c.args.mutexes.now) c.args.exec.now c.args.w.now c.requires.settled c.requires.placed

pub returns-then-lends_nothing-clause-settled : goal.returns-then-lends_nothing-clause-settled
returns-then-lends_nothing-clause-settled c =
    let old = links_of c.args.claims.now c.args.mutexes.now in
    let new = links_of c.args.claims.now c.become_owner.new.mutexes in
    let b : Begins old new c.args.exec.now c.args.t c.args.w.now =
    rw c.become_owner.ensures (begins_taken old _ c.args.k _ _ c.requires.known c.requires.mutex c.requires.settled c.requires.placed c.requires.free c.requires.waits_not) in
    let gets = c.lends_nothing.ensures c.if-lends_nothing.true in
    let same : prio_in c.args.exec.now c.args.t ≡ asked_in new.claims new.mutexes (prio_in c.args.exec.now) c.args.t =
    rw c.become_owner.ensures (taken_same old c.args.exec.now c.args.k c.args.t c.requires.known c.requires.mutex c.requires.settled c.requires.free (rw (← c.become_owner.ensures) gets)) in
    still_settled old new c.args.exec.now c.args.t c.args.w.now b same

pub returns-then-lends_nothing-clause-changes : goal.returns-then-lends_nothing-clause-changes
returns-then-lends_nothing-clause-changes c =
    let old = links_of c.args.claims.now c.args.mutexes.now in
    let new = links_of c.args.claims.now c.become_owner.new.mutexes in
    let b : Begins old new c.args.exec.now c.args.t c.args.w.now =
    rw c.become_owner.ensures (begins_taken old _ c.args.k _ _ c.requires.known c.requires.mutex c.requires.settled c.requires.placed c.requires.free c.requires.waits_not) in
    let gets = c.lends_nothing.ensures c.if-lends_nothing.true in
    let same : prio_in c.args.exec.now c.args.t ≡ asked_in new.claims new.mutexes (prio_in c.args.exec.now) c.args.t =
    rw c.become_owner.ensures (taken_same old c.args.exec.now c.args.k c.args.t c.requires.known c.requires.mutex c.requires.settled c.requires.free (rw (← c.become_owner.ensures) gets)) in
    nothing_changes old new c.args.exec.now c.args.t c.args.w.now b same
