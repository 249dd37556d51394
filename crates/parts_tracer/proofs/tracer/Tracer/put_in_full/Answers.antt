use Rattle.std.proofs.Common.{◌∷◌, ℕ, List, decimal, refl, subst}
use Rattle.words_trace.specs.Text.{event_words}
use Rattle.parts_tracer.specs.Printed.{Printed, outlet}
use Rattle.parts_tracer.proofs.Placed.{line_is_whole}
use Rattle.parts_tracer.proofs.Prints.{printed_all}
use Rattle.parts_tracer.proofs.tracer.Tracer.put_in_full.Goals as goal

pub returns-else-not-take_line : goal.returns-else-not-take_line
returns-else-not-take_line g c =
    let taken = c.if-not-take_line.ensures in
    let words = decimal c.args.now ∷ event_words c.args.names.now c.args.e.now in
    let old = c.args.self.now in
    record {
      same_sink = refl;
      printed = subst
          (λ (t : List ℕ). Printed (outlet g.K.Sink.text g.K.Sink.faults old.failed old.sink.now) (outlet g.K.Sink.text g.K.Sink.faults old.failed c.take_line.new.self) t)
          c.new-line.ensures
          (printed_all _ _ _ c.if-self.false c.if-self.false (line_is_whole _ words c.new-line.ensures (taken.short refl)) (taken.taken refl) taken.no_fault);
    }
