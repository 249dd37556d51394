use Rattle.std.proofs.Common.{◌≡◌, ◌<◌, add-one, false, true}
use Rattle.std.specs.Prelude.{slice_index_or}
use Rattle.rules_machine.specs.State.{SignalRecord}
use Rattle.kernel_texts.proofs.ShortFacts.{all_taken}
use Rattle.kernel_looks.proofs.PendingSignals.{mark_more}
use Rattle.kernel_looks.proofs.look_signals.pending_signals.Goals as goal

pub loop-r-preserved : goal.loop-r-preserved
loop-r-preserved c =
    let pending = c.args.parts.now.machine.pending in
    let r = c.in-Some.r in
    let marked = c.loop-r.marked in
    let more = mark_more marked pending c.loop-r.place r c.loop-r.invariant.long c.in-Some.ensures.value c.loop-r.invariant.marks in
    record {
      marks = rw add-one (rw (c.mark.ensures.marks, c.signal.ensures) more);
      long = c.mark.ensures.long;
    }

pub returns : goal.returns
returns c =
    let pending = c.args.parts.now.machine.pending in
    let marked = c.loop-r.marked in
    all_taken (λ (r : SignalRecord). r.signal < 32 → slice_index_or marked r.signal false ≡ true) pending c.loop-r.place c.in_default.ensures.value c.loop-r.invariant.marks
