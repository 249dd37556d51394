use Rattle.std.proofs.Common.{subst, sym}
use Rattle.script_code.specs.Packed.{AreIn}
use Rattle.script_code.proofs.Packs.{are_in_with}
use Rattle.script_code.proofs.ops.Ops.push.Goals as goal

pub invariant_of-self-2 : goal.invariant_of-self-2
invariant_of-self-2 c =
    subst (AreIn c.self.inside.calls.items) (sym c.in_ok-append.ensures.appended)
    (are_in_with c.self.inside.calls.items c.self.inside.packed.items c.args.packed c.self.invariant c.requires)
