use Rattle.std.proofs.Common.{refl}
use Rattle.parts_owners.specs.Chains.{links_of}
use Rattle.parts_owners.proofs.Begun.{begins_base, raised_asked}
use Rattle.parts_owners.proofs.Done.{Begins, finished, may_walk, settled_after}
use Rattle.parts_owners.proofs.changes.raise_base.Goals as goal

pub turn_alone-requires-clause-walks : goal.turn_alone-requires-clause-walks
turn_alone-requires-clause-walks c =
    let old = links_of c.args.claims.now c.args.mutexes.now in
    let new = links_of c.assign.new.claims c.args.mutexes.now in
    let b : Begins old new c.args.exec.now c.args.t c.args.w.now =
    rw c.assign.ensures (begins_base old _ _ c.args.p _ c.requires.known c.requires.settled c.requires.placed) in
    may_walk old new _ _ _ b

pub turn_alone-requires-clause-asks : goal.turn_alone-requires-clause-asks
turn_alone-requires-clause-asks c =
    rw c.assign.ensures
    (raised_asked (links_of c.args.claims.now c.args.mutexes.now) c.args.exec.now c.args.t c.args.p c.requires.known c.requires.settled c.requires.above)

pub returns-clause-settled : goal.returns-clause-settled
returns-clause-settled c =
    let old = links_of c.args.claims.now c.args.mutexes.now in
    let new = links_of c.assign.new.claims c.args.mutexes.now in
    let b : Begins old new c.args.exec.now c.args.t c.args.w.now =
    rw c.assign.ensures (begins_base old _ _ c.args.p _ c.requires.known c.requires.settled c.requires.placed) in
    let e = c.turn_alone.ensures in
    settled_after old new _ _ _ _ b e.each e.right e.fits

pub returns-clause-changes : goal.returns-clause-changes
returns-clause-changes c =
    let old = links_of c.args.claims.now c.args.mutexes.now in
    let new = links_of c.assign.new.claims c.args.mutexes.now in
    let b : Begins old new c.args.exec.now c.args.t c.args.w.now =
    rw c.assign.ensures (begins_base old _ _ c.args.p _ c.requires.known c.requires.settled c.requires.placed) in
    let e = c.turn_alone.ensures in
    finished old new _ _ _ _ _ _ b e.right (record { length = refl; each = λ u. refl }) e.stand e.moved
