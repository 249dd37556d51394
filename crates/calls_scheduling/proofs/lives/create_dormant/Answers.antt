use Rattle.std.proofs.Common.{List, ap, subst, ℕ, ◌∙◌}
use Rattle.rules_machine.specs.Lives.{inherited_mask}
use Rattle.rules_machine.specs.State.{Thread}
use Rattle.rules_machine.specs.Threads.{thread_at}
use Rattle.rules_bodies.specs.declared.cursor.Cursor.{Cursor}
use Rattle.rules_machine.specs.Waking.{starts}
use Rattle.rules_machine.proofs.BehindCalls.{starts_behind}
use Rattle.rules_flat_code.specs.FlatBodies.{flat_bodies}
use Rattle.kernel_state.specs.Kernel.{Kernel}
use Rattle.kernel_state.specs.Does.{Does}
use Rattle.kernel_state.proofs.Does.{then_does}
use Rattle.rules_bodies.specs.declared.op.Op.{Op}
use Rattle.rules_bodies.specs.Flat as flat
use Rattle.calls_scheduling.proofs.lives.create_dormant.Goals as goal

pub returns : goal.returns
returns g c =
    let p = c.args.p.now in
    let u = c.args.u in
    let mask = inherited_mask (thread_at p.machine c.args.by.now.thread) in
    let code = ap (λ (k : Kernel). k.code) c.returns.ensures.state in
    let here = subst (λ (x : flat.NumberedBodies (List Op)). Does g.K.Sink.text g.K.Sink.faults (starts (flat_bodies x) u c.inherited_mask-mask.result) c.returns.new.self c.start.new.p c.returns.new.out c.start.new.out) code c.start.ensures in
    let second = subst (λ (n : ℕ). Does g.K.Sink.text g.K.Sink.faults (starts (flat_bodies p.code) u n) c.returns.new.self c.start.new.p c.returns.new.out c.start.new.out) (c.inherited_mask-mask.ensures ∙ ap (λ (x : Thread Cursor). inherited_mask x) c.thread.ensures) here in
    then_does {g = starts (flat_bodies p.code) u mask} (starts_behind (flat_bodies p.code) u mask) c.returns.ensures second
