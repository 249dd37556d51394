use Rattle.std.proofs.Common.{List, subst, ℕ, ◌∙◌}
use Rattle.parts_tracer.specs.Tells.{Tells}
use Rattle.words_trace.specs.Text.{Entry}
use Rattle.words_numbers.specs.declared.res.Res.TheVariants as res
use Rattle.rules_machine.specs.Mutexes.{locks, waits_for_mutex}
use Rattle.rules_machine.specs.Turns.{returns}
use Rattle.kernel_state.specs.Kernel.{Kernel, told}
use Rattle.kernel_state.specs.Caller.{caller}
use Rattle.calls_sync.proofs.AtOnce.{locked, locked_told, same_names, untaken}
use Rattle.calls_sync.proofs.Released.{passes_for}
use Rattle.kernel_state.specs.Does.{Does}
use Rattle.calls_sync.proofs.mutexes.mutex_lock.Goals as goal

pub returns-then-take_at_once : goal.returns-then-take_at_once
returns-then-take_at_once g c = record {
  state = (let k = c.args.k in
      c.returns.ensures.state
      ∙ locked c.args.p.now c.args.by.now.thread k c.take_at_once.result c.take_at_once.new.self c.take_at_once.ensures.state c.args.by.now.call.now c.args.due _
      (c.take_at_once.ensures.value (waits_for_mutex k) (passes_for k)) c.if-take_at_once.true);
  told = (let k = c.args.k in
      let first = c.take_at_once.ensures.value (waits_for_mutex k) (passes_for k) in
      let names = same_names c.args.p.now c.args.by.now.thread k c.take_at_once.result c.take_at_once.new.self c.take_at_once.ensures.state c.args.by.now.call.now c.args.due _ first c.if-take_at_once.true in
      let events = locked_told c.args.p.now c.args.by.now.thread k c.take_at_once.result c.take_at_once.new.self c.take_at_once.ensures.state c.args.by.now.call.now c.args.due _ first c.if-take_at_once.true in
      subst (λ (e : List Entry). Tells g.K.Sink.text g.K.Sink.faults c.args.p.now.names c.args.out.now c.returns.new.out e) events
      (subst (λ (n : List (List ℕ)). Tells g.K.Sink.text g.K.Sink.faults n c.args.out.now c.returns.new.out (told (returns (caller c.args.by.now) res.Zero 0) c.take_at_once.new.self)) names
      c.returns.ensures.told));
}

pub returns-else-take_at_once : goal.returns-else-take_at_once
returns-else-take_at_once g c =
    let same = untaken c.args.p.now c.args.by.now.thread c.args.k c.take_at_once.result c.take_at_once.new.self c.take_at_once.ensures.state c.if-take_at_once.false in
    subst (λ (x : Kernel). Does g.K.Sink.text g.K.Sink.faults (locks (caller c.args.by.now) c.args.k c.args.due) x c.lock_any.new.p c.args.out.now c.lock_any.new.out) same c.lock_any.ensures
