use Rattle.std.proofs.Common.{refl}
use Rattle.kernel_looks.specs.Desk.{last_seen}
use Rattle.kernel_looks.proofs.FactsSeen.{only_here, went_on_same}
use Rattle.kernel_looks.proofs.Looking.{went_nothing}
use Rattle.kernel_looks.proofs.NothingTold.{none_short}
use Rattle.kernel_looks.proofs.look.look_at_object_fact.Goals as goal

pub returns-then-object_tells_nothing-clause-kept : goal.returns-then-object_tells_nothing-clause-kept
returns-then-object_tells_nothing-clause-kept c = went_nothing _ _ _ _ (c.object_tells_nothing.ensures c.if-object_tells_nothing.true c.args.decls.now) c.go_over_nothing.ensures.went

pub returns-then-object_tells_nothing-clause-short : goal.returns-then-object_tells_nothing-clause-short
returns-then-object_tells_nothing-clause-short c = none_short c.args.decls.now _ (c.object_tells_nothing.ensures c.if-object_tells_nothing.true c.args.decls.now)

pub returns-then-is_object_as_seen-clause-kept : goal.returns-then-is_object_as_seen-clause-kept
returns-then-is_object_as_seen-clause-kept c =
    let e = c.if-is_object_as_seen.true in
    let told = only_here c.args.decls.now c.args.desk.now (last_seen c.args.desk.now) _ refl (c.is_object_as_seen.ensures.some e) (c.is_object_as_seen.ensures.same e) c.requires.memory in
    went_on_same _ _ _ _ _ told.told c.go_over_same.ensures.went

pub returns-then-is_object_as_seen-clause-short : goal.returns-then-is_object_as_seen-clause-short
returns-then-is_object_as_seen-clause-short c =
    let e = c.if-is_object_as_seen.true in
    let told = only_here c.args.decls.now c.args.desk.now (last_seen c.args.desk.now) _ refl (c.is_object_as_seen.ensures.some e) (c.is_object_as_seen.ensures.same e) c.requires.memory in
    told.short
