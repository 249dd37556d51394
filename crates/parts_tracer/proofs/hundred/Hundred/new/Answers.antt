use Rattle.std.proofs.Common.{arith, refl, sym}
use Rattle.std.proofs.lemmas.Fmt.{decimal_digit}
use Rattle.parts_tracer.proofs.hundred.Hundred.new.Goals as goal

pub invariant_of-result : goal.invariant_of-result
invariant_of-result c = (omega arith, omega arith, (refl, omega arith, sym (decimal_digit 1 (omega arith))))
