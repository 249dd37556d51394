use Rattle.std.proofs.Common.{arith, refl}
use Rattle.std.proofs.lemmas.Simd.{zip2_splat, zip2_splat_left}
use lib.Bits.{bit_or, bit_and}
use Rattle.script_lex.specs.Stops.{stops}
use Rattle.script_lex.specs.declared.stops.Stop.TheVariants as stop
use Rattle.script_lex.proofs.Lanes.{missed, below, joined, masked}
use Rattle.script_lex.proofs.stops.bad_bytes.Goals as goal

pub returns : goal.returns
returns c =
    let v = c.args.v in
    let long = c.fits-v.0 in
    masked _ (stops stop.Bad) v _ (omega (arith, long)) c.fits-v.1
    (joined bit_and _ _ v (zip2_splat missed v 16 9 long) (joined bit_or _ _ v (zip2_splat below v 16 32 long) (zip2_splat_left below 126 16 v long))) refl
