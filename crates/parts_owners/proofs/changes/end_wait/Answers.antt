use Rattle.parts_owners.proofs.Begun.{begins_left, some_of}
use Rattle.std.proofs.Common.{None, ◌≡◌, unwrap_or, ap, sym}
use Rattle.parts_owners.specs.Chains.{asked_in, next_in, prio_in}
use Rattle.parts_owners.specs.Moves.{left}
use Rattle.parts_owners.specs.Chains.{links_of}
use Rattle.parts_owners.proofs.Done.{Begins, finished, may_walk, settled_after}
use Rattle.parts_owners.proofs.OneMutex.{nothing_changes, still_settled}
use Rattle.parts_owners.proofs.Parting.{parted_same}
use Rattle.parts_owners.proofs.changes.end_wait.Goals as goal

pub walk_apart-requires : goal.walk_apart-requires
walk_apart-requires c =
    let old = links_of c.args.claims.now c.args.mutexes.now in
    let new = links_of c.set_wait.new.claims c.args.mutexes.now in
    let was = some_of c.requires.waits in
    let start : c.in-Some.owner ≡ unwrap_or (next_in c.args.claims.now c.args.mutexes.now c.args.t) c.args.t =
    ap (λ x. unwrap_or x c.args.t) c.in-Some.ensures in
    let b : Begins old new c.args.exec.now c.in-Some.owner (left c.args.t c.args.w.now) =
    rw c.set_wait.ensures (begins_left old _ c.args.t was.0 _ _ c.requires.known c.requires.settled c.requires.placed was.1 start) in
    rw c.leave.ensures (may_walk old new _ _ _ b)

pub returns-in-Some : goal.returns-in-Some
returns-in-Some c =
    let old = links_of c.args.claims.now c.args.mutexes.now in
    let new = links_of c.set_wait.new.claims c.args.mutexes.now in
    let was = some_of c.requires.waits in
    let start : c.in-Some.owner ≡ unwrap_or (next_in c.args.claims.now c.args.mutexes.now c.args.t) c.args.t =
    ap (λ x. unwrap_or x c.args.t) c.in-Some.ensures in
    let b : Begins old new c.args.exec.now c.in-Some.owner (left c.args.t c.args.w.now) =
    rw c.set_wait.ensures (begins_left old _ c.args.t was.0 _ _ c.requires.known c.requires.settled c.requires.placed was.1 start) in
    let e = c.walk_apart.ensures in
    record {
      claims = c.set_wait.ensures;
      settled = settled_after old new _ _ _ _ b e.each e.right e.fits;
      changes = finished old new _ _ _ _ _ _ b e.right (rw (← c.leave.ensures) e.same) e.stand e.moved;
    }

pub returns-in-None : goal.returns-in-None
returns-in-None c =
    let old = links_of c.args.claims.now c.args.mutexes.now in
    let new = links_of c.set_wait.new.claims c.args.mutexes.now in
    let was = some_of c.requires.waits in
    let free : next_in c.args.claims.now c.args.mutexes.now c.args.t ≡ None = sym c.in-None.ensures in
    let start : c.args.t ≡ unwrap_or (next_in c.args.claims.now c.args.mutexes.now c.args.t) c.args.t = ap (λ x. unwrap_or x c.args.t) c.in-None.ensures in
    let b : Begins old new c.args.exec.now c.args.t (left c.args.t c.args.w.now) =
    rw c.set_wait.ensures (begins_left old _ c.args.t was.0 _ _ c.requires.known c.requires.settled c.requires.placed was.1 start) in
    let same : prio_in c.args.exec.now c.args.t ≡ asked_in new.claims new.mutexes (prio_in c.args.exec.now) c.args.t =
    rw c.set_wait.ensures (parted_same old c.args.exec.now c.args.t was.0 c.requires.known was.1 free c.requires.settled) in
    record {
      claims = c.set_wait.ensures;
      settled = still_settled old new c.args.exec.now c.args.t (left c.args.t c.args.w.now) b same;
      changes = rw c.leave.ensures (nothing_changes old new c.args.exec.now c.args.t (left c.args.t c.args.w.now) b same);
    }
