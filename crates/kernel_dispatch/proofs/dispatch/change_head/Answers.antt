use Rattle.std.proofs.Common.{Bool, ap, false, rules, subst, sym, ◌∙◌, ◌≡◌}
use Rattle.parts_tracer.specs.Tells.{Tells}
use Rattle.rules_machine.specs.declared.dispatch.LastDispatch.{LastDispatch}
use Rattle.rules_machine.specs.Dispatch.{dispatch_event, dispatches, is_same, tells_unless}
use Rattle.rules_machine.specs.Servers.{closes}
use Rattle.rules_machine.proofs.BehindTicks.{dispatches_behind}
use Rattle.kernel_state.specs.Kernel.{Kernel, told, turn}
use Rattle.kernel_dispatch.proofs.LastRun.{closes_left}
use Rattle.kernel_state.proofs.Turns.{then_told}
use Rattle.kernel_dispatch.proofs.dispatch.change_head.Goals as goal

pub returns : goal.returns
returns g c = record {
  state = (search rules);
  told = (let k = c.args.p.now in
      let l = c.close_last.new.p in
      let to = c.args.to.now in
      let stays : l.machine.last ≡ k.machine.last = ap (λ (x : Kernel). x.machine.last) c.close_last.ensures.state ∙ (closes_left to (turn k)).0 in
      let other : is_same l.machine.last to ≡ false = ap (λ (d : LastDispatch). is_same d to) stays ∙ c.requires.change in
      let given : Tells g.K.Sink.text g.K.Sink.faults l.names c.close_last.new.out c.tell_dispatch.new.out (told (dispatches to) l) =
      subst (λ (b : Bool). Tells g.K.Sink.text g.K.Sink.faults l.names c.close_last.new.out c.tell_dispatch.new.out (tells_unless b (dispatch_event l.machine to) (turn l)).events) (sym other) c.tell_dispatch.ensures in
      then_told _ _ (closes to) (dispatches to) k l _ _ _ (dispatches_behind to) c.close_last.ensures.state c.close_last.ensures.told given);
}
