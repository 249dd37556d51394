use Rattle.rules_machine.specs.Mutexes.{freed, taken_by}
use Rattle.rules_machine.specs.Threads.{no_mutex}
use Rattle.rules_machine.proofs.Reading.{changed-twice}
use Rattle.parts_owners.specs.Chains.{links_of}
use Rattle.parts_owners.proofs.Passing.{passes, settled_passed}
use Rattle.parts_owners.proofs.changes.pass.Goals as goal

pub returns-clause-settled : goal.returns-clause-settled
returns-clause-settled c =
    let old = links_of c.args.claims.now c.args.mutexes.now in
    rw (c.set_wait.ensures, c.become_owner.ensures, ← changed-twice no_mutex c.args.k freed (taken_by c.args.t) c.args.mutexes.now)
    (settled_passed old c.args.exec.now c.args.k c.args.owner c.args.t c.args.w.now c.requires.settled c.requires.placed c.requires.known c.requires.mutex c.requires.owned c.requires.may)

pub returns-clause-passes : goal.returns-clause-passes
returns-clause-passes c =
    let old = links_of c.args.claims.now c.args.mutexes.now in
    rw (c.leave.ensures, c.set_wait.ensures, c.become_owner.ensures, ← changed-twice no_mutex c.args.k freed (taken_by c.args.t) c.args.mutexes.now)
    (passes old c.args.exec.now c.args.k c.args.owner c.args.t c.args.w.now c.requires.settled c.requires.placed c.requires.known c.requires.mutex c.requires.owned c.requires.may)
