use Rattle.std.proofs.Common.{sym, ap, ◌∙◌, arith}
use Rattle.std.proofs.lemmas.Simd.{leading_from_mask_l, trailing_mask_l}
use lib.Count.{count_trailing_zeros}
use Rattle.script_lex.specs.Stops.{stops}
use Rattle.script_lex.proofs.stops.run_of_16.Goals as goal

pub returns-then-found-eq0 : goal.returns-then-found-eq0
returns-then-found-eq0 c =
    let all = leading_from_mask_l (stops c.args.stop) c.args.v (sym c.stops_of_16-found.ensures ∙ c.if-found-eq0.true) in
    omega (arith, all, c.fits-v.0)

pub returns-else-found-eq0 : goal.returns-else-found-eq0
returns-else-found-eq0 c =
    ap (count_trailing_zeros 64) c.stops_of_16-found.ensures
    ∙ trailing_mask_l (stops c.args.stop) 64 c.args.v (omega (arith, c.fits-v.0)) (omega (arith, c.stops_of_16-found.ensures, c.if-found-eq0.false))
