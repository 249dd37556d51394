use Rattle.std.proofs.Common.{◌+◌, ◌*◌, [], ◌∷◌, take, Ok}
use Rattle.words_script.specs.Tree.{block_of, step_count}
use Rattle.script_writer.specs.Canon.{block_lines, text_of}
use Rattle.script_writer.specs.Writes.{Writes}
use Rattle.script_writer.proofs.body.+blocks.Given as goal

abbrev pub invariant-write_body-loop-step : goal.invariant-write_body-loop-step
invariant-write_body-loop-step g l =
    Writes g.K.Sink.text g.K.Sink.faults l.initial.sink l.sink (Ok tt) (text_of (block_lines l.decls (block_of (take l.step-index l.step-items))))

abbrev pub decreases-write_step : goal.decreases-write_step
decreases-write_step g l = 3 * step_count (block_of (l.step.now ∷ []))

abbrev pub decreases-write_body : goal.decreases-write_body
decreases-write_body g l = 3 * step_count l.body.now + 1

abbrev pub decreases-write_block : goal.decreases-write_block
decreases-write_block g l = 3 * step_count l.body.now + 2
