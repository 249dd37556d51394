use Rattle.std.specs.List.{AllByRecursion}
use Rattle.std.proofs.Common.{◌≡◌, ◌<◌, ◌-◌, ◌^◌, flat_map, length, map, not, take}
use Rattle.rules_machine.specs.State.{SignalRecord}
use Rattle.script_writer.specs.Line.{spelled}
use Rattle.script_writer.specs.Words.{is_nil}
use Rattle.script_printer.specs.Puts.{Puts}
use Rattle.kernel_texts.specs.Lines.{begun}
use Rattle.kernel_texts.specs.Picked.{words_of}
use Rattle.kernel_object_facts.proofs.signals.put_signal.Given as goal

abbrev pub invariant-loop-r : goal.invariant-loop-r
invariant-loop-r g l =
    let told = flat_map (words_of l.decls l.left_out l.signal) (take l.place l.parts.machine.pending) in
    record {
      text : Puts g.K.Sink.text g.K.Sink.faults l.initial.out l.out (begun (map spelled l.subject) told);
      flag : l.is_begun ≡ not (is_nil told);
      values : AllByRecursion (λ (r : SignalRecord). r.value < 2 ^ 64) (take l.place l.parts.machine.pending);
    }

abbrev pub decreases-loop-r : goal.decreases-loop-r
decreases-loop-r g l = length l.parts.machine.pending - l.place
