use Rattle.parts_owners.proofs.Begun.{begins_freed}
use Rattle.std.proofs.Common.{◌≡◌}
use Rattle.parts_owners.specs.Chains.{asked_in, links_of, prio_in}
use Rattle.parts_owners.proofs.Done.{Begins}
use Rattle.parts_owners.proofs.AtOnce.{are_same}
use Rattle.parts_owners.proofs.OneMutex.{freed_same, nothing_changes, still_settled}
use Rattle.parts_owners.proofs.changes.release.Goals as goal

pub returns-then-is_at_assigned-clause-settled : goal.returns-then-is_at_assigned-clause-settled
returns-then-is_at_assigned-clause-settled c =
    let old = links_of c.args.claims.now c.args.mutexes.now in
    let new = links_of c.args.claims.now c.set_free.new.mutexes in
    let b : Begins old new c.args.exec.now c.args.t c.args.w.now =
    rw c.set_free.ensures (begins_freed old _ c.args.k _ _ c.requires.mutex c.requires.settled c.requires.placed c.requires.owned) in
    let same : prio_in c.args.exec.now c.args.t ≡ asked_in new.claims new.mutexes (prio_in c.args.exec.now) c.args.t =
    rw c.set_free.ensures (freed_same old c.args.exec.now c.args.k c.args.t (c.requires.settled.owners.each c.args.k c.args.t c.requires.owned) c.requires.mutex c.requires.settled (are_same _ _ _ c.if-is_at_assigned.true c.is_at_assigned.ensures)) in
    still_settled old new c.args.exec.now c.args.t c.args.w.now b same

pub returns-then-is_at_assigned-clause-changes : goal.returns-then-is_at_assigned-clause-changes
returns-then-is_at_assigned-clause-changes c =
    let old = links_of c.args.claims.now c.args.mutexes.now in
    let new = links_of c.args.claims.now c.set_free.new.mutexes in
    let b : Begins old new c.args.exec.now c.args.t c.args.w.now =
    rw c.set_free.ensures (begins_freed old _ c.args.k _ _ c.requires.mutex c.requires.settled c.requires.placed c.requires.owned) in
    let same : prio_in c.args.exec.now c.args.t ≡ asked_in new.claims new.mutexes (prio_in c.args.exec.now) c.args.t =
    rw c.set_free.ensures (freed_same old c.args.exec.now c.args.k c.args.t (c.requires.settled.owners.each c.args.k c.args.t c.requires.owned) c.requires.mutex c.requires.settled (are_same _ _ _ c.if-is_at_assigned.true c.is_at_assigned.ensures)) in
    nothing_changes old new c.args.exec.now c.args.t c.args.w.now b same
