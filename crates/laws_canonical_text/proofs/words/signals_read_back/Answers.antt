use Rattle.std.proofs.Common.{arith}
use Rattle.laws_canonical_text.proofs.Signals.{signal_of-signal_word}
use Rattle.laws_canonical_text.proofs.words.signals_read_back.Goals as goal

pub returns : goal.returns
returns c = signal_of-signal_word c.args.sig (omega arith)
