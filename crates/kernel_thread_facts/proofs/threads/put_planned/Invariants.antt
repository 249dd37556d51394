use Rattle.std.proofs.Common.{◌≡◌, ◌≤◌, ◌*◌, flat_map, length, map, not, take}
use Rattle.script_lex.specs.Joined.{after_blanks}
use Rattle.rules_facts.specs.Spelled.{replenishment_words}
use Rattle.script_writer.specs.Line.{spelled}
use Rattle.script_writer.specs.Words.{is_nil}
use Rattle.script_printer.specs.Puts.{Puts}
use Rattle.kernel_texts.specs.Lines.{begun}
use Rattle.kernel_thread_facts.proofs.threads.put_planned.Given as goal

abbrev pub invariant-loop-r : goal.invariant-loop-r
invariant-loop-r g l =
    let told = flat_map (replenishment_words) (take l.r-index l.planned) in
    record {
      text : Puts g.K.Sink.text g.K.Sink.faults l.initial.out l.out (begun (map spelled l.subject) told);
      flag : l.is_begun ≡ not (is_nil told);
      within : length (after_blanks told) ≤ 42 * l.r-index;
    }
