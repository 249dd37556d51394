use Rattle.std.proofs.Common.{◌≡◌, ℕ, List, length, suc, Option, None, Some}
use Rattle.std.specs.Option.{option_map}
use Rattle.script_table.specs.Words.{with_parts, parts_of, parts_ahead}
use Rattle.script_table.proofs.words.named_signals.Given as goal

abbrev bytes_ahead : Option (List ℕ) → ℕ
bytes_ahead None = 0
bytes_ahead (Some word) = suc (length word)

abbrev pub invariant-loop-ahead : goal.invariant-loop-ahead
invariant-loop-ahead l = with_parts l.set (parts_ahead (option_map (λ r. r.now) l.ahead)) ≡ with_parts 0 (parts_of l.word)

abbrev pub decreases-loop-ahead : goal.decreases-loop-ahead
decreases-loop-ahead l = bytes_ahead (option_map (λ r. r.now) l.ahead)
