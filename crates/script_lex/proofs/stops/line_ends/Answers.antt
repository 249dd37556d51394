use Rattle.std.proofs.Common.{arith, refl}
use Rattle.std.proofs.lemmas.Simd.{zip2_splat}
use Rattle.script_lex.specs.Stops.{stops}
use Rattle.script_lex.specs.declared.stops.Stop.TheVariants as stop
use Rattle.script_lex.proofs.Lanes.{hit, masked}
use Rattle.script_lex.proofs.stops.line_ends.Goals as goal

pub returns : goal.returns
returns c =
    let v = c.args.v in
    masked _ (stops stop.LineEnd) v _ (omega (arith, c.fits-v.0)) c.fits-v.1 (zip2_splat hit v 16 10 c.fits-v.0) refl
