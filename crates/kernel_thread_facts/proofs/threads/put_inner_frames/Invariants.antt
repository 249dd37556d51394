use Rattle.std.proofs.Common.{◌≡◌, flat_map, map, not, take}
use Rattle.script_writer.specs.Line.{spelled}
use Rattle.script_writer.specs.Words.{is_nil}
use Rattle.script_printer.specs.Puts.{Puts}
use Rattle.kernel_texts.specs.Lines.{begun, frame_words}
use Rattle.kernel_thread_facts.proofs.threads.put_inner_frames.Given as goal

abbrev pub invariant-loop-frame : goal.invariant-loop-frame
invariant-loop-frame g l =
    let told = flat_map (frame_words l.decls) (take l.frame-index l.frames) in
    record {
      text : Puts g.K.Sink.text g.K.Sink.faults l.initial.out l.out (begun (map spelled l.subject) told);
      flag : l.is_begun ≡ not (is_nil told);
    }
