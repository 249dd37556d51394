use Rattle.std.proofs.Common.{arith, refl}
use Rattle.std.proofs.lemmas.Simd.{zip2_splat}
use lib.Bits.{bit_or}
use Rattle.script_lex.specs.Stops.{stops}
use Rattle.script_lex.specs.declared.stops.Stop.TheVariants as stop
use Rattle.script_lex.proofs.Lanes.{hit, joined, masked}
use Rattle.script_lex.proofs.stops.blanks.Goals as goal

pub returns : goal.returns
returns c =
    let v = c.args.v in
    let long = c.fits-v.0 in
    masked _ (stops stop.Blank) v _ (omega (arith, long)) c.fits-v.1 (joined bit_or _ _ v (zip2_splat hit v 16 9 long) (zip2_splat hit v 16 32 long)) refl
