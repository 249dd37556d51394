use Rattle.std.proofs.Common.{◌≡◌, ℕ, [], ◌∷◌, flat_map, map, not, take}
use Rattle.words_script.specs.declared.name_kind.NameKind.TheVariants as kind
use Rattle.script_writer.specs.Names.{name_of}
use Rattle.script_writer.specs.Line.{spelled}
use Rattle.script_writer.specs.Words.{is_nil}
use Rattle.script_printer.specs.Puts.{Puts}
use Rattle.kernel_texts.specs.Lines.{begun}
use Rattle.kernel_thread_facts.proofs.threads.put_handlers.Given as goal

abbrev pub invariant-loop-u : goal.invariant-loop-u
invariant-loop-u g l =
    let told = flat_map (λ (u : ℕ). name_of l.decls kind.Cleanup u ∷ []) (take l.u-index l.handlers) in
    record {
      text : Puts g.K.Sink.text g.K.Sink.faults l.initial.out l.out (begun (map spelled l.subject) told);
      flag : l.is_begun ≡ not (is_nil told);
    }
