use Rattle.std.proofs.Common.{ltb-true, ltb-false}
use Rattle.std.specs.Int.Bits.{bit_xor}
use Rattle.parts_wheel.proofs.Apart.{agree, differ}
use Rattle.parts_wheel.proofs.places.is_near.Goals as goal

pub returns-clause-near : goal.returns-clause-near
returns-clause-near c h = agree c.args.now c.args.due (ltb-true (bit_xor c.args.now c.args.due) 2048 h)

pub returns-clause-far : goal.returns-clause-far
returns-clause-far c h = differ c.args.now c.args.due (ltb-false (bit_xor c.args.now c.args.due) 2048 h)
