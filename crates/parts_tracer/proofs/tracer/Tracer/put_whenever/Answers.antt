use Rattle.std.proofs.Common.{◌∷◌, decimal}
use Rattle.words_trace.specs.Text.{event_words}
use Rattle.parts_tracer.proofs.Placed.{line_is_whole}
use Rattle.parts_tracer.proofs.tracer.Tracer.put_whenever.Goals as goal

pub print-requires : goal.print-requires
print-requires g c = record {
  whole = λ short. line_is_whole _ (decimal c.args.now ∷ event_words c.args.names.now c.args.e.now) c.new-line.ensures short;
}
