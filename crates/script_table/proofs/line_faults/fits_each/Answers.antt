use Rattle.std.proofs.Common.{refl, sym, ◌∙◌}
use Rattle.script_table.specs.declared.pattern.Place.TheVariants as place
use Rattle.script_table.specs.LineFaults.{spelling}
use Rattle.script_table.specs.Ranges.{range_fault}
use Rattle.script_table.proofs.KindOrder.{too_short, next_spot, past_place, past_fit}
use Rattle.script_table.proofs.line_faults.fits_each.Goals as goal

pub returns-in_default : goal.returns-in_default
returns-in_default c = sym (too_short _ _ _ _ _ (next_spot c.args.places.now c.loop-place.place-index place.Answer c.loop-place-test.true) c.in_default.ensures.word c.loop-place.invariant.fit)

pub loop-place-preserved : goal.loop-place-preserved
loop-place-preserved c =
    let here = next_spot c.args.places.now c.loop-place.place-index _ c.loop-place-test.true in
    let so_far = c.loop-place.invariant in
    record {
      fit = past_fit _ _ _ _ _ _ _ here c.in-Some.ensures.word (sym c.stands.ensures ∙ c.if-not-stands.false) so_far.fit;
      spelled = past_place spelling _ _ _ _ _ _ _ _ _ _ here c.in-Some.ensures.word refl c.with_word-found.ensures.0 so_far.spelled;
      ranged = past_place range_fault _ _ _ _ _ _ _ _ _ _ here c.in-Some.ensures.word refl c.with_word-found.ensures.1 so_far.ranged;
    }
