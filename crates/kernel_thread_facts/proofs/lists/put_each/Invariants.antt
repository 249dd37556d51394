use Rattle.std.proofs.Common.{◌≡◌, ◌-◌, ℕ, [], ◌∷◌, flat_map, length, map, not, take}
use Rattle.rules_lists.specs.Lists.{list_of}
use Rattle.rules_facts.specs.Spelled.{thread_name}
use Rattle.script_writer.specs.Line.{spelled}
use Rattle.script_writer.specs.Words.{is_nil}
use Rattle.script_printer.specs.Puts.{Puts}
use Rattle.kernel_texts.specs.Lines.{begun}
use Rattle.kernel_thread_facts.proofs.lists.put_each.Given as goal

abbrev pub invariant-loop-t : goal.invariant-loop-t
invariant-loop-t g l =
    let told = flat_map (λ (t : ℕ). thread_name l.decls t ∷ []) (take l.place (list_of l.p l.parts.machine.lists)) in
    record {
      text : Puts g.K.Sink.text g.K.Sink.faults l.initial.out l.out (begun (map spelled l.subject) told);
      flag : l.is_begun ≡ not (is_nil told);
    }

abbrev pub decreases-loop-t : goal.decreases-loop-t
decreases-loop-t g l = length (list_of l.p l.parts.machine.lists) - l.place
