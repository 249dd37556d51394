use Rattle.parts_owners.proofs.Begun.{begins_freed, stands_cached}
use Rattle.std.proofs.Common.{◌≡◌}
use Rattle.parts_owners.specs.Chains.{asked_in, links_of, prio_in}
use Rattle.parts_owners.proofs.Done.{Begins, finished, may_walk, settled_after}
use Rattle.parts_owners.proofs.OneMutex.{nothing_changes, still_settled}
use Rattle.parts_owners.proofs.Rising.{freed_less}
use Rattle.parts_owners.proofs.changes.release_in_full.Goals as goal

pub walk-requires : goal.walk-requires
walk-requires c =
    let old = links_of c.args.claims.now c.args.mutexes.now in
    let new = links_of c.args.claims.now c.set_free-2.new.mutexes in
    let b : Begins old new c.args.exec.now c.args.t c.args.w.now =
    rw c.set_free-2.ensures (begins_freed old _ c.args.k _ _ c.requires.mutex c.requires.settled c.requires.placed c.requires.owned) in
    may_walk old new _ _ _ b

pub returns : goal.returns
returns c =
    let old = links_of c.args.claims.now c.args.mutexes.now in
    let new = links_of c.args.claims.now c.set_free-2.new.mutexes in
    let b : Begins old new c.args.exec.now c.args.t c.args.w.now =
    rw c.set_free-2.ensures (begins_freed old _ c.args.k _ _ c.requires.mutex c.requires.settled c.requires.placed c.requires.owned) in
    let e = c.walk.ensures in
    record {
      mutexes = c.set_free-2.ensures;
      settled = settled_after old new _ _ _ _ b e.each e.right e.fits;
      changes = finished old new _ _ _ _ _ _ b e.right e.same e.stand e.moved;
    }

pub lends_less-requires-clause-stand : goal.lends_less-requires-clause-stand
lends_less-requires-clause-stand c = stands_cached (links_of c.args.claims.now c.args.mutexes.now) c.args.exec.now c.args.w.now c.requires.settled c.requires.placed

pub returns-then-lends_less-clause-settled : goal.returns-then-lends_less-clause-settled
returns-then-lends_less-clause-settled c =
    let old = links_of c.args.claims.now c.args.mutexes.now in
    let new = links_of c.args.claims.now c.set_free.new.mutexes in
    let b : Begins old new c.args.exec.now c.args.t c.args.w.now =
    rw c.set_free.ensures (begins_freed old _ c.args.k _ _ c.requires.mutex c.requires.settled c.requires.placed c.requires.owned) in
    let known = c.requires.settled.owners.each c.args.k c.args.t c.requires.owned in
    let same : prio_in c.args.exec.now c.args.t ≡ asked_in new.claims new.mutexes (prio_in c.args.exec.now) c.args.t =
    rw c.set_free.ensures (freed_less c.args.claims.now c.args.mutexes.now (prio_in c.args.exec.now) c.args.k c.args.t c.requires.mutex (c.requires.settled.right.each c.args.t known) (c.lends_less.ensures c.if-lends_less.true)) in
    still_settled old new c.args.exec.now c.args.t c.args.w.now b same

pub returns-then-lends_less-clause-changes : goal.returns-then-lends_less-clause-changes
returns-then-lends_less-clause-changes c =
    let old = links_of c.args.claims.now c.args.mutexes.now in
    let new = links_of c.args.claims.now c.set_free.new.mutexes in
    let b : Begins old new c.args.exec.now c.args.t c.args.w.now =
    rw c.set_free.ensures (begins_freed old _ c.args.k _ _ c.requires.mutex c.requires.settled c.requires.placed c.requires.owned) in
    let known = c.requires.settled.owners.each c.args.k c.args.t c.requires.owned in
    let same : prio_in c.args.exec.now c.args.t ≡ asked_in new.claims new.mutexes (prio_in c.args.exec.now) c.args.t =
    rw c.set_free.ensures (freed_less c.args.claims.now c.args.mutexes.now (prio_in c.args.exec.now) c.args.k c.args.t c.requires.mutex (c.requires.settled.right.each c.args.t known) (c.lends_less.ensures c.if-lends_less.true)) in
    nothing_changes old new c.args.exec.now c.args.t c.args.w.now b same
