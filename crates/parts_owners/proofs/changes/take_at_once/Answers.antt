use Rattle.std.proofs.Common.{true, ◌≡◌}
use Rattle.parts_owners.specs.Chains.{links_of}
use Rattle.parts_owners.proofs.AtOnce.{taken}
use Rattle.parts_owners.proofs.changes.take_at_once.Goals as goal

pub returns-clause-settled : goal.returns-clause-settled
returns-clause-settled c =
    let is : c.is_plainly_free.result ≡ true = cc in
    rw c.become_owner.ensures
    (taken (links_of c.args.claims.now c.args.mutexes.now) c.args.exec.now c.args.k c.args.t c.args.w.now c.requires.settled c.requires.placed true
    c.requires.known c.requires.mutex c.requires.waits_not (rw (← is) c.is_plainly_free.ensures)).0

pub returns-clause-same : goal.returns-clause-same
returns-clause-same c =
    let is : c.is_plainly_free.result ≡ true = cc in
    rw c.become_owner.ensures
    (taken (links_of c.args.claims.now c.args.mutexes.now) c.args.exec.now c.args.k c.args.t c.args.w.now c.requires.settled c.requires.placed true
    c.requires.known c.requires.mutex c.requires.waits_not (rw (← is) c.is_plainly_free.ensures)).1
