use Rattle.words_trace.specs.Text.{report_words}
use Rattle.parts_tracer.proofs.Placed.{line_is_whole}
use Rattle.parts_tracer.proofs.tracer.Tracer.put_report.Goals as goal

pub print-requires : goal.print-requires
print-requires g c = record {
  whole = λ short. line_is_whole _ (report_words c.args.names.now c.args.t c.args.report.now) c.new.ensures short;
}
