use Rattle.std.proofs.Common.{ap, ◌∙◌, slice_set}
use Rattle.rules_bodies.specs.declared.op.Op.TheVariants as op
use Rattle.script_code.specs.declared.ops.Packed.TheVariants.{Test}
use Rattle.script_code.proofs.Packs.{are_in_set, unpacked_set}
use Rattle.script_code.proofs.ops.Ops.set_test.Goals as goal

pub invariant_of-self : goal.invariant_of-self
invariant_of-self c =
    are_in_set c.self.inside.calls.items c.self.inside.packed.items c.args.at (Test c.args.res c.args.equal c.args.skip) c.self.invariant tt

pub returns : goal.returns
returns c =
    unpacked_set c.self.inside.calls.items c.self.inside.packed.items c.args.at (Test c.args.res c.args.equal c.args.skip) tt
    ∙ ap (λ ops. slice_set ops c.args.at (op.Test c.args.res c.args.equal c.args.skip)) c.self.view_is
