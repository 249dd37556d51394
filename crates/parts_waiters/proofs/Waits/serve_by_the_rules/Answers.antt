use Rattle.parts_waiters.proofs.Served.{acceptor_is, best_is}
use Rattle.parts_waiters.proofs.Waits.serve_by_the_rules.Goals as goal

pub returns-clause-waiters : goal.returns-clause-waiters
returns-clause-waiters c m obj passes same ties = best_is m obj passes c.args.self.now same ties

pub returns-clause-acceptors : goal.returns-clause-acceptors
returns-clause-acceptors c m r sets process ties are = acceptor_is m r sets c.args.self.now process ties are
