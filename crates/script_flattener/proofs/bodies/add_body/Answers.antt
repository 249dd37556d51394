use Rattle.std.proofs.Common.{arith, length, ap}
use Rattle.script_code.proofs.Safe.{op_number-step_count}
use Rattle.script_flattener.proofs.bodies.add_body.Goals as goal

pub flatten-requires : goal.flatten-requires
flatten-requires c =
    let short = c.requires.short in
    omega (arith, op_number-step_count c.args.body.now, ap length c.new-ops.ensures)
