use Rattle.std.proofs.Common.{◌≡◌, ◌≤◌, ◌+◌, ◌*◌, ◌++◌, length, map}
use Rattle.script_writer.specs.Words.{joined_by_commas, is_nil}
use Rattle.words_numbers.specs.Words.{signal_word}
use Rattle.script_writer.proofs.Signals.{signals_below}
use Rattle.script_writer.proofs.line.add_each_signal.Given as goal

abbrev pub invariant-loop-sig : goal.invariant-loop-sig
invariant-loop-sig l = record {
  text : l.line.items ≡ l.initial.line.items ++ joined_by_commas (map signal_word (signals_below l.set l.sig));
  first : l.is_first ≡ is_nil (signals_below l.set l.sig);
  bound : length l.line.items ≤ length l.initial.line.items + 6 * l.sig;
}
