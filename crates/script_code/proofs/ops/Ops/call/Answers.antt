use Rattle.std.proofs.Common.{rules}
use Rattle.script_code.proofs.Packs.{call_in_table, is_in_at}
use Rattle.script_code.proofs.ops.Ops.call.Goals as goal

pub index-requires : goal.index-requires
index-requires c =
    let within = is_in_at c.self.inside.calls.items c.self.inside.packed.items c.args.number c.in-Make.call c.in_ok-call.field-0.now c.self.invariant
    (search rules) (search rules) c.in-Make.is in
    search (rules, within)

pub returns-in-Make : goal.returns-in-Make
returns-in-Make c =
    call_in_table c.self.inside.calls.items c.self.inside.packed.items c.args.self.now c.args.number c.in-Make.call c.in_ok-call.field-0.now
    c.index.result.now c.self.view_is (search rules) (search rules) c.in-Make.is
    (is_in_at c.self.inside.calls.items c.self.inside.packed.items c.args.number c.in-Make.call c.in_ok-call.field-0.now c.self.invariant
    (search rules) (search rules) c.in-Make.is) c.index.ensures
