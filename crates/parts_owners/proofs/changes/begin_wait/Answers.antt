use Rattle.std.proofs.Common.{None, arith, ap, ◌≡◌, ◌<◌, ◌∙◌, length}
use Rattle.std.proofs.lemmas.List.{get_or_read}
use Rattle.parts_owners.specs.Chains.{awaited_in, prio_in}
use Rattle.parts_owners.specs.Moves.{entered, mutex_placed}
use Rattle.parts_owners.proofs.Begun.{begins_waiting, entered_is}
use Rattle.parts_owners.specs.Chains.{links_of}
use Rattle.parts_owners.proofs.Done.{Begins, finished, may_walk, settled_after}
use Rattle.parts_owners.proofs.Rising.{begun_rises, owned_within}
use Rattle.parts_owners.proofs.changes.begin_wait.Goals as goal

pub rise-requires : goal.rise-requires
rise-requires c =
    let old = links_of c.args.claims.now c.args.mutexes.now in
    let new = links_of c.set_wait.new.claims c.args.mutexes.now in
    let lt : c.args.t < length c.args.exec.now = omega (arith, c.requires.known, c.requires.settled.each) in
    let read : c.index-exec-get.result ≡ prio_in c.args.exec.now c.args.t = get_or_read c.args.exec.now c.args.t c.index-exec-get.result lt (rw c.get.ensures.value at c.index-exec-get.is) 0 in
    let put : c.enter.new.self ≡ entered c.args.t c.args.k c.args.serial old c.args.w.now =
    entered_is old c.args.exec.now c.args.t c.args.k c.args.serial _ _ _ _ c.requires.settled c.requires.known read c.default.ensures c.enter.ensures in
    let b : Begins old new c.args.exec.now c.args.owner (entered c.args.t c.args.k c.args.serial old c.args.w.now) =
    rw c.set_wait.ensures (begins_waiting old _ c.args.t c.args.k _ _ _ c.requires.known c.requires.settled c.requires.placed c.requires.owned c.requires.nowhere c.requires.no_cycle) in
    let within : c.args.k < length c.args.mutexes.now = owned_within c.args.mutexes.now c.args.k c.args.owner c.requires.owned in
    let none : awaited_in c.args.claims.now c.args.t ≡ None = c.requires.placed.waiters.each c.args.t ∙ ap mutex_placed c.requires.nowhere in
    record {
      walks = rw put (may_walk old new _ _ _ b);
      mutex = within;
      rises = rw c.set_wait.ensures
          (begun_rises c.args.claims.now c.args.mutexes.now (prio_in c.args.exec.now) c.args.t c.args.k c.args.owner c.requires.known within none
          (c.requires.settled.right.each c.args.owner (c.requires.settled.owners.each c.args.k c.args.owner c.requires.owned)));
    }

pub returns : goal.returns
returns c =
    let old = links_of c.args.claims.now c.args.mutexes.now in
    let new = links_of c.set_wait.new.claims c.args.mutexes.now in
    let lt : c.args.t < length c.args.exec.now = omega (arith, c.requires.known, c.requires.settled.each) in
    let read : c.index-exec-get.result ≡ prio_in c.args.exec.now c.args.t = get_or_read c.args.exec.now c.args.t c.index-exec-get.result lt (rw c.get.ensures.value at c.index-exec-get.is) 0 in
    let put : c.enter.new.self ≡ entered c.args.t c.args.k c.args.serial old c.args.w.now =
    entered_is old c.args.exec.now c.args.t c.args.k c.args.serial _ _ _ _ c.requires.settled c.requires.known read c.default.ensures c.enter.ensures in
    let b : Begins old new c.args.exec.now c.args.owner (entered c.args.t c.args.k c.args.serial old c.args.w.now) =
    rw c.set_wait.ensures (begins_waiting old _ c.args.t c.args.k _ _ _ c.requires.known c.requires.settled c.requires.placed c.requires.owned c.requires.nowhere c.requires.no_cycle) in
    let e = c.rise.ensures in
    record {
      claims = c.set_wait.ensures;
      settled = settled_after old new _ _ _ _ b e.each e.right e.fits;
      changes = finished old new _ _ _ _ _ _ b e.right (rw (← put) e.same) e.stand e.moved;
    }
