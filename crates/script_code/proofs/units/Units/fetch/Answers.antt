use Rattle.std.proofs.Common.{ap, arith, drop, length, subst, sym}
use Rattle.rules_bodies.specs.Fetch.{ops_of}
use Rattle.script_code.specs.Fetched.{unit_of}
use Rattle.script_code.specs.Ready.{IsReady}
use Rattle.rules_bodies.proofs.Agrees.{fetches, stays_placed}
use Rattle.script_code.proofs.Safe.{placed_ready, placed_within}
use Rattle.script_code.proofs.Told.{fetched_told}
use Rattle.script_code.proofs.units.Units.fetch.Goals as goal

pub search-requires-clause-ready : goal.search-requires-clause-ready
search-requires-clause-ready c =
    subst (λ body. IsReady (drop c.args.at.now.pc (ops_of c.args.self.now.code body)) c.args.at.now) c.requires.own
    (placed_ready c.args.self.now.code c.args.at.now c.requires.placed)

pub search-requires-clause-within : goal.search-requires-clause-within
search-requires-clause-within c =
    let same = ap (λ body. length (ops_of c.args.self.now.code body)) c.requires.own in
    let h = placed_within c.args.self.now.code c.args.at.now c.requires.placed in
    omega arith

pub search-requires-clause-short : goal.search-requires-clause-short
search-requires-clause-short c =
    let same = ap (λ body. length (ops_of c.args.self.now.code body)) c.requires.own in
    let h = placed_within c.args.self.now.code c.args.at.now c.requires.placed in
    omega arith

pub returns-clause-fetched : goal.returns-clause-fetched
returns-clause-fetched c =
    fetched_told c.args.self.now.code (ops_of c.args.self.now.code c.args.self.now.body) c.args.at.now c.search.new.at c.search.result
    (ap (λ body. ops_of c.args.self.now.code body) (sym c.requires.own)) c.search.ensures.found c.search.ensures.inside

pub returns-clause-next : goal.returns-clause-next
returns-clause-next c =
    fetches c.args.self.now.code c.args.at.now c.search.new.at (unit_of c.args.self.now.code c.search.result) (returns-clause-fetched c)

pub returns-clause-placed : goal.returns-clause-placed
returns-clause-placed c =
    stays_placed c.args.self.now.code c.args.at.now c.search.new.at (unit_of c.args.self.now.code c.search.result) (returns-clause-fetched c)
    c.requires.placed

pub returns-clause-few : goal.returns-clause-few
returns-clause-few c =
    (placed_ready c.args.self.now.code c.search.new.at (returns-clause-placed c)).few
