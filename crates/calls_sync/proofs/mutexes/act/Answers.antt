use Rattle.std.proofs.Common.{refl, subst, sym}
use Rattle.rules_machine.specs.Mutexes.{carries_out_lock}
use Rattle.rules_machine.specs.State.{for_mutex}
use Rattle.rules_machine.specs.Waking.{blocks}
use Rattle.kernel_state.specs.Caller.{caller}
use Rattle.kernel_state.specs.Does.{Does}
use Rattle.kernel_state.proofs.Does.{silent_does}
use Rattle.calls_sync.specs.Answers.{answer_of}
use Rattle.calls_sync.specs.declared.answers.LockAnswer.{LockAnswer}
use Rattle.calls_sync.proofs.mutexes.act.Goals as goal

pub returns-in-MustWait : goal.returns-in-MustWait
returns-in-MustWait g c =
    let by = caller c.args.by.now in
    subst (λ (a : LockAnswer). Does g.K.Sink.text g.K.Sink.faults (carries_out_lock (answer_of a) by c.args.k c.args.due) c.args.p.now c.block.new.self c.args.out.now c.args.out.now)
    (sym c.in-MustWait.is)
    (silent_does (blocks by (for_mutex c.args.k) c.args.due) c.args.p.now c.block.new.self c.args.out.now refl c.block.ensures)
