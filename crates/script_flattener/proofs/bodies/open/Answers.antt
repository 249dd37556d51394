use Rattle.std.proofs.Common.{List, ap}
use Rattle.rules_bodies.specs.Flat.{NumberedBodies, bodies_of}
use Rattle.rules_bodies.specs.declared.op.Op.{Op}
use Rattle.rules_bodies.proofs.Opens.{opens_empty, opens_next, opens_more, opens_all, is_body_of_script}
use Rattle.script_flattener.proofs.bodies.open.Goals as goal

pub loop-decl-init : goal.loop-decl-init
loop-decl-init c =
    let empty = c.new-code.ensures in
    opens_empty c.args.script.now.decls c.items-decl-items.result.now _ c.requires c.items-decl-items.ensures
    (ap (λ (code : NumberedBodies (List Op)). code.all) empty) (ap (λ (code : NumberedBodies (List Op)). code.threads) empty)
    (ap (λ (code : NumberedBodies (List Op)). code.handlers) empty) (ap (λ (code : NumberedBodies (List Op)). code.cleanups) empty)

pub declare-requires-clause-short : goal.declare-requires-clause-short
declare-requires-clause-short c =
    (opens_next c.args.script.now.decls c.items-decl-items.result.now c.loop-decl.code c.loop-decl.decl-index c.decl-item.result
    c.loop-decl.invariant c.loop-decl-test.true c.decl-item.is).short

pub loop-decl-preserved : goal.loop-decl-preserved
loop-decl-preserved c =
    opens_more c.args.script.now.decls c.items-decl-items.result.now c.loop-decl.code c.declare.new.code c.loop-decl.decl-index c.decl-item.result
    c.loop-decl.invariant c.loop-decl-test.true c.decl-item.is c.in_ok-declare.ensures

pub returns-clause-bodies : goal.returns-clause-bodies
returns-clause-bodies c = λ n body. is_body_of_script (bodies_of c.args.script.now.decls) c.loop-decl.code n body
    (opens_all c.args.script.now.decls c.items-decl-items.result.now c.loop-decl.code c.loop-decl.decl-index c.loop-decl.invariant c.loop-decl-test.false) c.requires
