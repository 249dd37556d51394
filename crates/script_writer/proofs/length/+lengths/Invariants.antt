use Rattle.std.proofs.Common.{◌≡◌, ◌+◌, ◌*◌, [], ◌∷◌, take}
use Rattle.words_script.specs.Tree.{block_of, step_count}
use Rattle.script_writer.specs.Canon.{block_lines, text_of}
use Rattle.script_writer.specs.Firsts.{capped_len}
use Rattle.script_writer.proofs.length.+lengths.Given as goal

abbrev pub invariant-body_len-loop-step : goal.invariant-body_len-loop-step
invariant-body_len-loop-step l = l.len ≡ capped_len (text_of (block_lines l.decls (block_of (take l.step-index l.step-items))))

abbrev pub decreases-step_len : goal.decreases-step_len
decreases-step_len l = 3 * step_count (block_of (l.step.now ∷ []))

abbrev pub decreases-body_len : goal.decreases-body_len
decreases-body_len l = 3 * step_count l.body.now + 1

abbrev pub decreases-block_len : goal.decreases-block_len
decreases-block_len l = 3 * step_count l.body.now + 2
