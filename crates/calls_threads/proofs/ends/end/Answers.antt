use Rattle.std.proofs.Common.{ap, subst, sym, ◌≡◌, ◌∙◌}
use Rattle.words_trace.specs.declared.event.Event.TheVariants as event
use Rattle.rules_bodies.specs.declared.cursor.Cursor.{Cursor}
use Rattle.rules_machine.specs.Lives.{wakes_joiner, without_life, without_target}
use Rattle.rules_machine.specs.State.{Joiner, Thread}
use Rattle.rules_machine.specs.Threads.{thread_at}
use Rattle.rules_machine.specs.Turns.{Turn, changes, changes_pending, tells, ◌▷◌}
use Rattle.rules_machine.proofs.BehindCalls.{wakes_joiner_behind}
use Rattle.kernel_threads.specs.Plain.{joiner_of}
use Rattle.kernel_state.specs.Kernel.{Kernel, turn}
use Rattle.kernel_wakes.specs.Joins.{JoinerFits}
use Rattle.calls_threads.proofs.Ended.{joiner_fits}
use Rattle.kernel_state.proofs.Does.{then_does}
use Rattle.kernel_state.specs.Does.{Does}
use Rattle.calls_threads.proofs.ends.end.Goals as goal

pub wake_joiner-requires-clause-joiner : goal.wake_joiner-requires-clause-joiner
wake_joiner-requires-clause-joiner g c =
    let is : joiner_of c.joiner-joiner.result ≡ (thread_at c.args.p.now.machine c.args.t).joiner = c.joiner-joiner.ensures ∙ ap (λ (x : Thread Cursor). x.joiner) c.thread.ensures in
    let j = joiner_of c.joiner-joiner.result in
    subst (λ (k : Kernel). JoinerFits k.machine j) (sym c.end_life.ensures.state) (joiner_fits c.args.t (turn c.args.p.now) j is c.requires.can.rests c.requires.can.joins)

pub returns : goal.returns
returns g c =
    let is : joiner_of c.joiner-joiner.result ≡ (thread_at c.args.p.now.machine c.args.t).joiner = c.joiner-joiner.ensures ∙ ap (λ (x : Thread Cursor). x.joiner) c.thread.ensures in
    let t = c.args.t in
    let life = λ (s : Turn Cursor). s ▷ changes t without_life ▷ tells (event.Exit t) ▷ changes_pending (without_target t) in
    let does = subst (λ (x : Joiner). Does g.K.Sink.text g.K.Sink.faults (λ (s : Turn Cursor). wakes_joiner x t (life s)) c.args.p.now c.wake_joiner.new.p c.args.out.now c.wake_joiner.new.out) is
    (then_does (wakes_joiner_behind (joiner_of c.joiner-joiner.result) t) c.end_life.ensures c.wake_joiner.ensures) in
    record { state = does.state; told = does.told }
