use Rattle.std.proofs.Common.{rules}
use Rattle.script_code.proofs.Packs.{are_in_called, are_in_further, unpacked_called}
use Rattle.script_code.proofs.ops.Ops.push_call.Goals as goal

pub invariant_of-self-in_err-append-2 : goal.invariant_of-self-in_err-append-2
invariant_of-self-in_err-append-2 c =
    are_in_further c.self.inside.calls.items c.append.new.list.items c.self.inside.packed.items c.append-2.new.list.items c.args.call.now
    c.self.invariant c.in_ok-append.ensures.appended c.in_err-append-2.ensures.unchanged

pub invariant_of-self-2 : goal.invariant_of-self-2
invariant_of-self-2 c =
    are_in_called c.self.inside.calls.items c.append.new.list.items c.self.inside.packed.items c.append-2.new.list.items c.args.call.now
    c.len-number.result c.self.invariant
    (record { in_table = c.in_ok-append.ensures.appended; numbered = search rules; appended = c.in_ok-append-2.ensures.appended })

pub returns : goal.returns
returns c =
    unpacked_called c.self.inside.calls.items c.append.new.list.items c.self.inside.packed.items c.append-2.new.list.items c.args.call.now
    c.len-number.result c.args.self.now c.self.invariant c.self.view_is
    (record { in_table = c.in_ok-append.ensures.appended; numbered = search rules; appended = c.in_ok-append-2.ensures.appended })
