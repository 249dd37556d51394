use Rattle.std.proofs.Common.{◌∷◌, decimal, refl}
use Rattle.words_trace.specs.declared.event.Event.TheVariants as event
use Rattle.words_trace.specs.Text.{event_words}
use Rattle.parts_tracer.proofs.Placed.{line_is_whole}
use Rattle.parts_tracer.proofs.Prints.{printed_all}
use Rattle.parts_tracer.proofs.Tells.{tells_one}
use Rattle.parts_tracer.proofs.tracer.Tracer.put_return.Goals as goal

pub returns-else-not-take_return-clause-printed : goal.returns-else-not-take_return-clause-printed
returns-else-not-take_return-clause-printed g c =
    let taken = c.if-not-take_return.ensures in
    let words = decimal c.args.now ∷ event_words c.args.names.now (event.Return c.args.t c.args.call c.args.res c.args.value) in
    record {
      same_sink = refl;
      printed = printed_all _ _ _ c.if-self.false c.if-self.false (line_is_whole _ words refl (taken.short refl)) (taken.taken refl) taken.no_fault;
    }

pub returns-else-not-take_return-clause-told : goal.returns-else-not-take_return-clause-told
returns-else-not-take_return-clause-told g c = tells_one _ _ _ _ _ _ (returns-else-not-take_return-clause-printed g c)
